-- `change::set_result_in` meets its contract: the payload at the place that was found.
use Prim.Native.Nat.{◌<◌}
use mathlib.Core.Path.{sym, ◌∙◌}
use native.Mathlib.Omega.{arith}
use Rattle.memory.specs.Memory.{slot_count}
use Rattle.state.specs.Change.{changed_in}
use Rattle.state.proofs.Laws.{slot-hit}
use Rattle.state.proofs.change.set_result_in.Goals as goal
use Rattle.state.proofs.change.set_result_in.Goals.{In-Some}

pub returns-in_default : goal.returns-in_default
unfolding changed_in
returns-in_default c = rw (← c.with_slot.ensures, c.in_default.is)

-- what was found is in the list
inside : (c : goal.In-Some) → c.in-Some.i < slot_count
inside c =
    let hit = slot-hit c.args.state _ _ (sym c.with_slot.ensures ∙ c.in-Some.is) in
    omega (arith, hit.0)

pub returns : goal.returns
unfolding changed_in
returns c = rw (← c.with_slot.ensures, c.in-Some.is) c.set_result.ensures

pub set_result-requires : goal.set_result-requires
set_result-requires c = omega (arith, inside c)
