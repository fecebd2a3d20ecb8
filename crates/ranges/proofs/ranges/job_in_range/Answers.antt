-- `ranges::job_in_range` meets its contract: the first test that fails decides.
use Prim.Native.Nat.{ℕ, ◌≤◌, ◌<◌}
use mathlib.Core.Path.{◌≡◌, sym, ap, ◌∙◌}
use mathlib.Core.Bool.{true}
use native.Mathlib.Omega.{arith}
use borrow.Author.Tests.{le-leb, lt-leb}
use lib.Dec.{ltb}
use Rattle.words.proofs.Tests.{held, refuted}
use Rattle.state.specs.Find.{with_slot, is_taken}
use Rattle.state.specs.Steps.{step_count}
use Rattle.state.specs.declared.state.State.{State}
use Rattle.outlines.specs.Outline.{Outlines}
use Rattle.ranges.specs.Ranges.{is_job_action, job_in_range}
use Rattle.ranges.proofs.ranges.job_in_range.Goals as goal
use Rattle.ranges.proofs.ranges.job_in_range.Goals.{Else-not-is_job_action, In-Some}

-- the tests passed, of a state with the outline
module _ (s : State) where
  acts : (c : goal.Else-not-is_job_action) → Outlines c.args.outline s → is_job_action s.job.action ≡ true
  acts c h = held (c.is_job_action.ensures ∙ ap is_job_action h.action) c.if-not-is_job_action.false

  found : (c : goal.In-Some) → Outlines c.args.outline s → is_taken s s.job.slot ≡ true
  found c h = rw (← (c.with_slot.ensures.0 s h ∙ ap (with_slot s) h.slot), c.in-Some.is)

pub returns-then-not-is_job_action : goal.returns-then-not-is_job_action
unfolding job_in_range
returns-then-not-is_job_action c = λ s h. simp (refuted (c.is_job_action.ensures ∙ ap is_job_action h.action) c.if-not-is_job_action.true)

pub returns-in_default : goal.returns-in_default
unfolding job_in_range
returns-in_default c = λ s h.
    simp (
      acts s (goal.at.returns-in_default c).Else-not-is_job_action h,
      sym (c.with_slot.ensures.0 s h ∙ ap (with_slot s) h.slot),
      c.in_default.is,
    )

pub returns-then-not-stack_fits : goal.returns-then-not-stack_fits
unfolding job_in_range
returns-then-not-stack_fits c = λ s h.
    simp (acts s (goal.at.returns-then-not-stack_fits c).Else-not-is_job_action h, found s (goal.at.returns-then-not-stack_fits c).In-Some h, refuted (c.stack_fits.ensures s h) c.if-not-stack_fits.true)

pub returns-then-outline-lt1 : goal.returns-then-outline-lt1
unfolding job_in_range
returns-then-outline-lt1 c = λ s h.
    let late : s.job.time < 1 = omega (arith, h.time, c.if-outline-lt1.true) in
    simp (
      acts s (goal.at.returns-then-outline-lt1 c).Else-not-is_job_action h,
      found s (goal.at.returns-then-outline-lt1 c).In-Some h,
      held (c.stack_fits.ensures s h) c.if-not-stack_fits.false,
      lt-leb _ _ late,
    )

pub returns : goal.returns
unfolding job_in_range
returns c = λ s h.
    let left : 1 ≤ s.job.time = omega (arith, h.time, c.if-outline-lt1.false) in
    simp (
      acts s (goal.at.returns c).Else-not-is_job_action h,
      found s (goal.at.returns c).In-Some h,
      held (c.stack_fits.ensures s h) c.if-not-stack_fits.false,
      le-leb _ _ left,
      sym (ap (λ (n : ℕ). ltb n (step_count s)) h.steps),
      c.all_steps.ensures s h,
    )
