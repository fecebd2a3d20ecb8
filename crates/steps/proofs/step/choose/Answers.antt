-- `step::choose` meets its contract: past the removals a laying, else a removal of its payload or of all applied ones.
use Prim.Native.Nat.{◌≤◌, ◌<◌}
use native.Mathlib.Omega.{arith}
use lib.ListN.{length}
use Rattle.words.proofs.Tests.{differs, equals}
use Rattle.state.specs.Steps.{removing}
use Rattle.state.specs.declared.state.State.{State}
use Rattle.outlines.specs.Outline.{Outlines}
use Rattle.ranges.proofs.Laws.{standing-in-range}
use Rattle.steps.proofs.StepLaws.{laying-next, reverting-next, replacing}
use Rattle.steps.proofs.step.choose.Goals as goal
use Rattle.steps.proofs.step.choose.Goals.{Else-removals-k}

pub returns-then-removals-k : goal.returns-then-removals-k
returns-then-removals-k c = λ s h ranges standing.
    let past : length (removing s) ≤ s.job.steps = omega (arith, c.removed_edits-removals.ensures.0 s h, h.steps, c.if-removals-k.true) in
    let n = laying-next s (standing-in-range ranges standing).steps past in
    c.choice_in.ensures s h
    (rw (c.removed_edits-removals.ensures.0 s h, h.steps, h.slot) n.0)
    (rw (c.removed_edits-removals.ensures.0 s h, h.steps, h.slot) n.1)

-- before
early :
    (c : goal.Else-removals-k) (s : State) → Outlines c.args.outline s → s.job.steps < length (removing s)
early c s h = omega (arith, c.removed_edits-removals.ensures.0 s h, h.steps, c.if-removals-k.false)

pub returns-then-outline-eq-REVERT : goal.returns-then-outline-eq-REVERT
returns-then-outline-eq-REVERT c = λ s h ranges standing.
    let n = reverting-next s (equals h.action c.if-outline-eq-REVERT.true) (early (goal.at.returns-then-outline-eq-REVERT c).Else-removals-k s h) in
    c.choice_in-then-outline-eq-REVERT.ensures s h
    (rw (c.removed_edits-removals.ensures.0 s h, h.steps, h.slot) n.0)
    (rw (c.removed_edits-removals.ensures.0 s h, h.steps, h.slot) n.1)

pub returns : goal.returns
returns c = λ s h ranges standing.
    let first = early (goal.at.returns c).Else-removals-k s h in
    c.applied_choice.ensures s h (replacing s (differs h.action c.if-outline-eq-REVERT.false) first) first
