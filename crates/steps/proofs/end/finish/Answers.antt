-- `end::finish` meets its contract: the payload at the place that was found.
use Prim.Native.Nat.{◌<◌}
use mathlib.Core.Path.{sym, ap, ◌∙◌}
use native.Mathlib.Omega.{arith}
use lib.ListN.{length}
use Rattle.memory.specs.Memory.{slot_count}
use Rattle.state.specs.Change.{changed_at, changed_in}
use Rattle.state.specs.State.{with_result, with_status}
use Rattle.state.specs.declared.state.State.{State}
use Rattle.state.proofs.Laws.{slot-hit}
use Rattle.state.proofs.Whole.{whole}
use Rattle.steps.proofs.EndLaws.{changed-twice}
use Rattle.steps.proofs.end.finish.Goals as goal
use Rattle.steps.proofs.end.finish.Goals.{In-Some}

pub returns-in_default : goal.returns-in_default
unfolding changed_in
returns-in_default c = rw (← c.with_slot.ensures, c.in_default.is)

-- what was found is in the list
inside : (c : goal.In-Some) → c.in-Some.i < slot_count
inside c =
    let hit = slot-hit c.args.state _ _ (sym c.with_slot.ensures ∙ c.in-Some.is) in
    omega (arith, hit.0)

pub returns : goal.returns
unfolding changed_in
returns c = let s = c.args.state in
    let i = c.in-Some.i in
    let there : i < length s.payloads = omega (arith, inside (goal.at.returns c).In-Some, (whole s _ c.well_formed.0).payloads) in
    c.set_status.ensures
    ∙ ap (λ (n : State). changed_at (with_status c.status_after-status.result) n i) c.set_result-next.ensures
    ∙ changed-twice (with_result 0) (with_status c.status_after-status.result) s i there
    ∙ rw (← c.with_slot.ensures, c.in-Some.is, c.status_after-status.ensures)

pub set_result-next-requires : goal.set_result-next-requires
set_result-next-requires c = omega (arith, inside (goal.at.set_result-next-requires c).In-Some)

pub set_status-requires : goal.set_status-requires
set_status-requires c = omega (arith, inside (goal.at.set_status-requires c).In-Some)
