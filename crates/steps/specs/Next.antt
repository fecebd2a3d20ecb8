-- The edit that a job's next work step makes, and the state after it.
use Rattle.std.specs.Prelude.{ℕ, ◌+◌, ◌-◌, ◌<◌, ◌≡◌, false, cond, map, ◌++◌, eqb, get_or, set, take, drop}
use Rattle.records.specs.Payload.{no_edit}
use Rattle.records.specs.declared.payload.Payload.{Payload}
use Rattle.state.specs.Change.{changed_in}
use Rattle.state.specs.Find.{payload_at}
use Rattle.state.specs.State.{revert, apply, replace, checked, applied, no_job, with_result, with_status, with_payloads, with_stack, with_job}
use Rattle.state.specs.Steps.{step_for, steps_of, step_count}
use Rattle.state.specs.declared.state.Job.{Job}
use Rattle.state.specs.declared.state.State.{State}
use Rattle.state.specs.declared.steps.Step.{Step}
use Rattle.steps.specs.declared.step.Choice.{Choice}

-- ---- the edit

abbrev pub no_step : Step
no_step = record { lays = false; slot = 0; number = 0; edit = no_edit }

-- "work step k does the k-th"
unfoldable pub step_now : State → Step
step_now s = get_or (steps_of s) s.job.steps no_step

-- a choice of that step: the place in the list of its payload, and the number of one of its records
pub record Chosen (c : Choice) (s : State) : Type 0 where
  pub place : c.place < s.count
  pub number : c.number < (payload_at s c.place).edit_count
  pub step : step_for c.lays (payload_at s c.place) c.number ≡ step_now s

-- ---- the state after it

abbrev pub with_steps : ℕ → Job → Job
with_steps n j = record { action = j.action; slot = j.slot; held = j.held; time = j.time; steps = n }

-- "statuses set": the payloads that a replace takes off, and keep their results
unfoldable pub all_checked : State → State
all_checked s = with_payloads (map (with_status checked) (take s.count s.payloads) ++ drop s.count s.payloads) s

abbrev pub taken_down : State → State
taken_down s = cond (eqb s.job.action replace) (all_checked s) s

-- "result 0", and the status of the job's own payload
abbrev pub finished : ℕ → Payload → Payload
finished action p = with_status (cond (eqb action revert) checked applied) (with_result 0 p)

unfoldable pub statuses_set : State → State
statuses_set s = changed_in (finished s.job.action) (taken_down s) s.job.slot

-- the stack: without its top, with one more, or with the job's payload alone
unfoldable pub stack_set : State → State
stack_set s =
    cond (eqb s.job.action revert) (with_stack (s.depth - 1) s.stack s)
    (cond (eqb s.job.action apply) (with_stack (s.depth + 1) (set s.stack s.depth s.job.slot) s)
    (with_stack 1 (set s.stack 0 s.job.slot) s))

-- "The step with the last edit ends the job: result 0, statuses set, CPUs free."
unfoldable pub ended : State → State
ended s = with_job no_job (statuses_set (stack_set s))

unfoldable pub worked : State → State
worked s =
    cond (eqb (s.job.steps + 1) (step_count s)) (ended s)
    (with_job (with_steps (s.job.steps + 1) s.job) s)
