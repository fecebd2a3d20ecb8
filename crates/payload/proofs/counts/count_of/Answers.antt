-- `count_of` meets its contract: the iterator counts what the rule counts.
use lib.ListN.{take}
use mathlib.Core.Path.{◌≡◌, ◌∙◌}
use native.Mathlib.Omega.{arith}
use borrow.Author.Rules.{rules}
use Rattle.std.specs.List.{count_by}
use Rattle.payload.proofs.CountLaws.{of_kind, counted}
use Rattle.payload.proofs.counts.count_of.Goals as goal

pub returns : goal.returns
returns c =
    let a = c.args in
    let seen : c.count.result ≡ count_by (of_kind a.kind) (take a.count a.table) = search rules in
    seen ∙ counted _ _ _ (omega arith)
