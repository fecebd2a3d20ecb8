-- `ranges::stack_in_range` meets its contract: `all` answers what `every` does.
use mathlib.Core.Path.{◌∙◌}
use borrow.Author.Rules.{rules}
use borrow.Author.Tests.{tests}
use lib.ListN.{take}
use Rattle.std.proofs.lemmas.Iterator.{YieldsList-from_slice}
use Rattle.std.proofs.lemmas.Iterator.Search.{all_from_yields_List}
use Rattle.state.specs.Find.{is_taken}
use Rattle.ranges.proofs.Every.{every_all}
use Rattle.ranges.proofs.ranges.stack_in_range.Goals as goal

pub returns : goal.returns
returns c = λ s h.
    all_from_yields_List (is_taken s) _ _ _ c.all.ensures.ran (YieldsList-from_slice (take c.args.outline.depth c.args.outline.stack) (cc)) (λ x b q k. search (rules, tests, h))
    ∙ rw (h.depth, h.stack) (every_all _ _)
