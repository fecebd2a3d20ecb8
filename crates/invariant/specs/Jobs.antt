-- What the model's jobs do: the named parts of the claim about any sequence of calls.
use Rattle.std.specs.Prelude.{ℕ, ◌+◌, ◌*◌, ◌≤◌, ◌≡◌, true, false, ◌⊎◌, ◌↔◌, replicate, Option, None, Some}
use Rattle.records.specs.Limits.{records_max}
use Rattle.memory.specs.Memory.{slot_count}
use Rattle.model.specs.Calls.{Call, Work}
use Rattle.model.specs.Memory.{text_with, text_of}
use Rattle.model.specs.Model.{Job, Model}
use Rattle.model.specs.Step.{is_complete, step_count, stack_after, step, after}
use Rattle.invariant.specs.Done.{stack_edits, done_after}

-- the call is the last work step of a job whose rendezvous is complete: the stack is changed as a whole
pub record LastStep (l : Model) (c : Call) : Type 0 where
  pub job : Job
  pub stands : l.job ≡ Some job
  pub work : c ≡ Work
  pub complete : is_complete job ≡ true
  pub last : job.steps + 1 ≡ step_count l job
  pub stack : (step l c).model.stack ≡ stack_after job.action job.slot l.stack

-- no rendezvous is complete
abbrev pub NoneComplete : Option Job → Type 0
NoneComplete None = Unit {0}
NoneComplete (Some j) = is_complete j ≡ false

pub record Jobs (l : Model) : Type 0 where
  -- the applied stack changes only at a job's last work step; so not on a time-out
  pub stack : (c : Call) → ((step l c).model.stack ≡ l.stack) ⊎ LastStep l c
  -- while no rendezvous is complete, the text is the start-up text under the applied stack's edits, oldest first
  pub gathering : NoneComplete l.job → text_of l ≡ text_with l.start.text (stack_edits l l.stack)
  -- in a complete one, after k work steps exactly the job's first k removals and layings are done
  pub working : (j : Job) → l.job ≡ Some j → is_complete j ≡ true → l.laid ≡ done_after l j j.steps
  -- there the job ends in as many work steps as it has edits to take off and lay,
  pub ending :
      (j : Job) → l.job ≡ Some j → is_complete j ≡ true → (n : ℕ) →
      ((after l (replicate n Work)).job ≡ None) ↔ (step_count l j ≤ j.steps + n)
  -- at most 256
  pub few : (j : Job) → l.job ≡ Some j → step_count l j ≤ slot_count * records_max
