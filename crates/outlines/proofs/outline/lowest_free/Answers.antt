-- `outline::lowest_free` meets its contract: the lowest free slot from `slot` on is the lowest of all.
use mathlib.Core.Path.{sym, ◌∙◌}
use Rattle.words.proofs.Scan.{begin, turn, end}
use Rattle.state.specs.Find.{lowest_free}
use Rattle.outlines.proofs.outline.lowest_free.Goals as goal

pub loop-slot-init : goal.loop-slot-init
unfolding lowest_free
loop-slot-init c = λ s h. begin _ _ _

pub returns-in_default : goal.returns-in_default
returns-in_default c = λ s h.
    sym
    (c.loop-slot.invariant s h
    ∙ turn _ _ _ _ c.loop-slot-test.true
    ∙ rw (← c.with_slot.ensures.0 s h, c.in_default.is))

pub loop-slot-preserved : goal.loop-slot-preserved
loop-slot-preserved c = λ s h.
    c.loop-slot.invariant s h
    ∙ turn _ _ _ _ c.loop-slot-test.true
    ∙ rw (← c.with_slot.ensures.0 s h, c.in-Some.is)

pub returns : goal.returns
returns c = λ s h. sym (c.loop-slot.invariant s h ∙ end _ _ _ _ c.loop-slot-test.false)
