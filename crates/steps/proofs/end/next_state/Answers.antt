-- `end::next_state` meets its contract: the last step ends the job, and any other is counted.
use mathlib.Core.Path.{sym, ◌∙◌}
use native.Mathlib.Omega.{arith}
use borrow.Author.Tests.{eq-eqb, ne_eqb}
use Rattle.state.proofs.Whole.{Whole, whole}
use Rattle.ranges.proofs.Laws.{InRange, in-range}
use Rattle.steps.specs.Next.{worked}
use Rattle.steps.proofs.StepLaws.{steps-few}
use Rattle.steps.proofs.end.next_state.Goals as goal
use Rattle.steps.proofs.end.next_state.Goals.{Start}

module _ (c : goal.Start) where
  all_whole : Whole c.args.state
  all_whole = whole c.args.state _ c.well_formed.0

  ranges : InRange c.args.state
  ranges = in-range all_whole c.requires.0

pub all_steps-requires : goal.all_steps-requires
all_steps-requires c = let r = ranges (goal.at.all_steps-requires c).Start in
    let told = c.outline_of.ensures in
    (omega (arith, told.count, r.few), omega (arith, told.depth, r.few, r.shallow))

pub returns-then-job-all_steps : goal.returns-then-job-all_steps
unfolding worked
returns-then-job-all_steps c = c.end_job.ensures ∙ rw (eq-eqb _ _ (c.if-job-all_steps.true ∙ c.all_steps.ensures _ c.outline_of.ensures))

pub overflow_add-job-2 : goal.overflow_add-job-2
overflow_add-job-2 c = let r = ranges (goal.at.overflow_add-job-2 c).Start in
    let job = r.job c.requires.1 in
    omega (arith, job.steps, steps-few (all_whole (goal.at.overflow_add-job-2 c).Start) r job)

pub returns : goal.returns
unfolding worked
returns c = rw (ne_eqb _ _ (λ e. c.if-job-all_steps.false (e ∙ sym (c.all_steps.ensures _ c.outline_of.ensures))))

pub outline_of-requires : goal.outline_of-requires
outline_of-requires c = (ranges (goal.at.outline_of-requires c).Start).few
