-- `fields::behind_first` meets its contract: a field begins behind each space.
use native.Mathlib.Omega.{arith}
use lib.Dec.{eqb}
use Rattle.std.proofs.Common.{rules, tests}
use Rattle.std.proofs.lemmas.Iterator.{YieldsList-from_slice}
use Rattle.std.proofs.lemmas.Iterator.Consumers.{YieldsList-from_filter, count_from_yields_List}
use Rattle.script.specs.Fields.{space}
use Rattle.script.proofs.Line.{count-fields}
use Rattle.script.proofs.fields.behind_first.Goals as goal

pub returns : goal.returns
returns c = let line = c.args.line.now in
    let count = count_from_yields_List c.filter.result c.count.result c.count.ensures.ran (YieldsList-from_filter _ (λ b. eqb b space) (YieldsList-from_slice line cc) c.filter.ensures.closure (λ x b q k. search (rules, tests))) in
    omega (arith, count, count-fields line)
