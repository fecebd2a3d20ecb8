-- `range::with_slot` meets its contract: what the outline finds is so in the state.
use native.Mathlib.Omega.{arith}
use Rattle.in_place.proofs.range.with_slot.Goals as goal

pub returns : goal.returns
returns c = let told = c.outline.ensures in
    let found = c.with_slot.ensures in
    (found.0 _ told, λ i e. omega (arith, found.1 i e, told.count, c.requires.1))

pub outline-requires : goal.outline-requires
outline-requires c = c.requires

pub with_slot-requires : goal.with_slot-requires
with_slot-requires c = omega (arith, c.outline.ensures.count, c.requires.1)
