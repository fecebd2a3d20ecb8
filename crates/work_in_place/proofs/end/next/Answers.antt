-- `end::next` meets its contract: the last step ends the job, and any other is counted.
use Prim.Native.Nat.{◌+◌}
use mathlib.Core.Path.{◌≡◌, sym, ap, ◌∙◌}
use native.Mathlib.Omega.{arith}
use Rattle.state.specs.State.{with_job}
use Rattle.state.specs.Steps.{step_count}
use Rattle.state.specs.declared.state.Job.{Job}
use Rattle.state.specs.declared.state.State.{State}
use Rattle.state.proofs.Whole.{Whole}
use Rattle.ranges.proofs.Laws.{InRange}
use Rattle.state_bytes.specs.Stored.{state_in}
use Rattle.state_bytes.proofs.Laws.{state-length, whole_in}
use Rattle.steps.specs.Next.{with_steps}
use Rattle.steps.proofs.StepLaws.{steps-few}
use Rattle.in_place.proofs.Laws.{ranges-of, holds_as}
use Rattle.work_in_place.proofs.Laws.{worked-last, worked-more}
use Rattle.work_in_place.proofs.end.next.Goals as goal
use Rattle.work_in_place.proofs.end.next.Goals.{After-all_steps, Start}

module _ (c : goal.Start) where
  abbrev state-of : State
  state-of = state_in c.args.b.now

  all_whole : Whole state-of
  all_whole = whole_in _ (state-length _ c.requires.0)

  ranges : InRange state-of
  ranges = ranges-of _ (state-length _ c.requires.0) c.requires.1

pub all_steps-requires : goal.all_steps-requires
all_steps-requires c = let r = ranges (goal.at.all_steps-requires c).Start in
    let told = c.outline.ensures in
    (omega (arith, told.count, r.few), omega (arith, told.depth, r.few, r.shallow))

-- the steps of the job, and how many are done
module _ (c : goal.After-all_steps) where
  steps : c.all_steps.result ≡ step_count (state_in c.args.b.now)
  steps = c.all_steps.ensures _ c.outline.ensures

  job_read : c.job-job.result ≡ (state_in c.args.b.now).job
  job_read = c.job-job.ensures

pub returns-then-job-all_steps : goal.returns-then-job-all_steps
returns-then-job-all_steps c = let s = state_in c.args.b.now in
    let last : s.job.steps + 1 ≡ step_count s =
    ap (λ (j : Job). j.steps + 1) (sym (job_read (goal.at.returns-then-job-all_steps c).After-all_steps)) ∙ c.if-job-all_steps.true ∙ steps (goal.at.returns-then-job-all_steps c).After-all_steps in
    holds_as c.end_job.ensures (worked-last s last)

pub overflow_add-job-2 : goal.overflow_add-job-2
overflow_add-job-2 c = let r = ranges (goal.at.overflow_add-job-2 c).Start in
    let job = r.job c.requires.2 in
    omega (arith, ap (λ (j : Job). j.steps) (job_read (goal.at.overflow_add-job-2 c).After-all_steps), job.steps, steps-few (all_whole (goal.at.overflow_add-job-2 c).Start) r job)

pub returns : goal.returns
returns c = let s = state_in c.args.b.now in
    let more : s.job.steps + 1 ≡ step_count s → ⊥ = λ e.
    c.if-job-all_steps.false (ap (λ (j : Job). j.steps + 1) (job_read (goal.at.returns c).After-all_steps) ∙ e ∙ sym (steps (goal.at.returns c).After-all_steps)) in
    holds_as c.put_job.ensures
    (ap (λ (j : Job). with_job (with_steps (j.steps + 1) j) s) (job_read (goal.at.returns c).After-all_steps) ∙ worked-more s more)

pub job-job-requires : goal.job-job-requires
job-job-requires c = state-length _ c.requires.0

pub outline-requires : goal.outline-requires
outline-requires c = (state-length _ c.requires.0, (ranges (goal.at.outline-requires c).Start).few)

pub end_job-requires : goal.end_job-requires
end_job-requires c = c.requires

pub put_job-requires : goal.put_job-requires
put_job-requires c = c.requires.0
