-- `find::payload_in` meets its contract: the payload at the place that was found, or the empty record.
use Prim.Native.Nat.{◌<◌}
use mathlib.Core.Path.{sym, ◌∙◌}
use native.Mathlib.Omega.{arith}
use Rattle.memory.specs.Memory.{slot_count}
use Rattle.state.specs.Find.{payload_in}
use Rattle.state.proofs.Laws.{slot-hit}
use Rattle.state.proofs.Whole.{whole, copied-payload}
use Rattle.state.proofs.find.payload_in.Goals as goal
use Rattle.state.proofs.find.payload_in.Goals.{In-Some}

pub returns-in_default : goal.returns-in_default
unfolding payload_in
returns-in_default c = rw (← c.with_slot.ensures, c.in_default.is) c.empty.ensures

-- what was found is in the list
inside : (c : goal.In-Some) → c.in-Some.i < slot_count
inside c =
    let hit = slot-hit c.args.state _ _ (sym c.with_slot.ensures ∙ c.in-Some.is) in
    omega (arith, hit.0)

pub returns : goal.returns
unfolding payload_in
returns c = rw (← c.with_slot.ensures, c.in-Some.is)
    (copied-payload (whole c.args.state _ c.well_formed.0) _ (inside (goal.at.returns c).In-Some))

pub offset_bounds-state-i : goal.offset_bounds-state-i
offset_bounds-state-i c = omega (arith, inside c)

pub bounds-state-i : goal.bounds-state-i
bounds-state-i c = omega (arith, inside c)
