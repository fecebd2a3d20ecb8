-- `ranges::all_edits_in_range` meets its contract: `all` answers what `every` does.
use mathlib.Core.Path.{◌∙◌}
use borrow.Author.Rules.{rules}
use borrow.Author.Tests.{tests}
use lib.ListN.{take}
use Rattle.std.proofs.lemmas.Iterator.{YieldsList-from_slice}
use Rattle.std.proofs.lemmas.Iterator.Search.{all_from_yields_List}
use Rattle.ranges.specs.Ranges.{edit_in_range}
use Rattle.ranges.proofs.Every.{every_all}
use Rattle.ranges.proofs.ranges.all_edits_in_range.Goals as goal

pub returns : goal.returns
returns c = let edits = take c.args.count c.args.edits in
    all_from_yields_List (edit_in_range c.args.config) _ _ _ c.all.ensures.ran (YieldsList-from_slice edits (cc)) (λ x b q k. search (rules, tests))
    ∙ every_all _ edits
