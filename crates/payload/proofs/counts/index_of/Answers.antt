-- `index_of` meets its contract: the iterator finds what the rule finds.
use lib.ListN.{take}
use mathlib.Core.Path.{◌≡◌}
use native.Mathlib.Omega.{arith}
use Rattle.std.proofs.Common.{rules, tests}
use Rattle.std.specs.List.{position}
use Rattle.std.proofs.lemmas.Iterator.{YieldsList-from_slice}
use Rattle.std.proofs.lemmas.Iterator.Search.{position_from_yields_List}
use Rattle.payload.specs.Counts.{index_of}
use Rattle.payload.proofs.CountLaws.{of_kind, indexed, index-below}
use Rattle.payload.proofs.counts.index_of.Goals as goal

pub returns : goal.returns
returns c =
    let a = c.args in
    let test = of_kind a.kind in
    let found : c.position.result ≡ position test (take a.count a.table) =
    position_from_yields_List test _ _ c.position.result c.position.ensures.ran (YieldsList-from_slice _ c.iter.ensures.rest)
    (λ x b q k. search (rules, tests)) in
    let same : c.unwrap_or.result ≡ index_of a.table a.count a.kind =
    rw (c.unwrap_or.ensures, found) (indexed _ _ _ (omega arith)) in
    (same, rw same (index-below a.table a.count a.kind c.requires))
