-- `counts::all_steps` meets its contract: the removals and the layings.
use mathlib.Core.Path.{sym}
use lib.ListN.{length-append}
use Rattle.state.specs.Steps.{removing, laying}
use Rattle.outlines.proofs.counts.all_steps.Goals as goal

pub returns : goal.returns
returns c = λ s h. rw (c.removed_edits.ensures.0 s h, c.laid_edits.ensures.0 s h) (sym (length-append (removing s) (laying s)))
