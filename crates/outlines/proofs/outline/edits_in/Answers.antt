-- `outline::edits_in` meets its contract: the number at the place that was found, or none.
use Prim.Native.Nat.{◌<◌}
use native.Mathlib.Omega.{arith}
use Rattle.records.specs.Payload.{named, empty}
use Rattle.state.specs.Find.{payload_in}
use Rattle.outlines.proofs.outline.edits_in.Goals as goal
use Rattle.outlines.proofs.outline.edits_in.Goals.{In-Some}

pub returns-in_default : goal.returns-in_default
unfolding payload_in empty named
returns-in_default c = λ s h. rw (← c.with_slot.ensures.0 s h, c.in_default.is)

-- what was found is in the list
inside : (c : goal.In-Some) → c.in-Some.i < c.args.outline.count
inside c = c.with_slot.ensures.1 _ c.in-Some.is

pub returns : goal.returns
unfolding payload_in
returns c = λ s h. rw (← c.with_slot.ensures.0 s h, c.in-Some.is) (h.edits _ (omega (arith, h.count, inside (goal.at.returns c).In-Some)))

pub offset_bounds-outline-i : goal.offset_bounds-outline-i
offset_bounds-outline-i c = omega (arith, inside c)

pub bounds-outline-i : goal.bounds-outline-i
bounds-outline-i c = omega (arith, inside c)
