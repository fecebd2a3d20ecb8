-- `end::end_job` meets its contract: the stack, the statuses, and no job.
use Prim.Native.Nat.{◌≤◌}
use mathlib.Core.Path.{◌≡◌, ap, ◌∙◌}
use native.Mathlib.Omega.{arith}
use Rattle.memory.specs.Memory.{slot_count}
use Rattle.state.specs.declared.state.State.{State}
use Rattle.state_bytes.specs.Stored.{state_in}
use Rattle.state_bytes.proofs.Laws.{state-length}
use Rattle.steps.specs.Next.{taken_down, stack_set}
use Rattle.steps.proofs.EndLaws.{stack-counts}
use Rattle.in_place.proofs.Laws.{ranges-of, holds_as, job-after}
use Rattle.work_in_place.proofs.Laws.{down-counts, ended_by}
use Rattle.work_in_place.proofs.end.end_job.Goals as goal
use Rattle.work_in_place.proofs.end.end_job.Goals.{After-set_stack, After-take_down}

-- the list of payloads is as long as it was
few : (c : goal.After-set_stack) → (stack_set (state_in c.args.b.now)).count ≤ slot_count
few c = omega (arith, stack-counts (state_in c.args.b.now), (ranges-of _ (state-length _ c.requires.0) c.requires.1).few)

pub take_down-requires : goal.take_down-requires
take_down-requires c = let stacked = c.set_stack.ensures in
    (stacked.whole, omega (arith, ap (λ (t : State). t.count) stacked.read, few (goal.at.take_down-requires c).After-set_stack))

-- the state after the replaced payloads are taken down
down : (c : goal.After-take_down) → state_in c.take_down.new.b ≡ taken_down (stack_set (state_in c.args.b.now))
down c = c.take_down.ensures.read ∙ ap taken_down c.set_stack.ensures.read

pub finish-requires : goal.finish-requires
finish-requires c = let count = ap (λ (t : State). t.count) (down (goal.at.finish-requires c).After-take_down) in (
  c.take_down.ensures.whole,
  omega (arith, count, down-counts (stack_set (state_in c.args.b.now)), few (goal.at.finish-requires c).After-set_stack),
)

pub returns : goal.returns
returns c = holds_as (job-after c.finish.ensures c.put_job.ensures c.none-none.ensures)
    (ended_by (state_in c.args.b.now) c.job-job.ensures (down (goal.at.returns c).After-take_down))

pub job-job-requires : goal.job-job-requires
job-job-requires c = state-length _ c.requires.0

pub set_stack-requires : goal.set_stack-requires
set_stack-requires c = c.requires

pub put_job-requires : goal.put_job-requires
put_job-requires c = c.finish.ensures.whole
