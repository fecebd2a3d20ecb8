-- `step::choice_in` meets its contract: where nothing is found, the slot has no records.
use Prim.Native.Nat.{◌<◌}
use mathlib.Core.Path.{◌≡◌, sym}
use native.Mathlib.Omega.{arith}
use Rattle.records.specs.Payload.{named, empty}
use Rattle.state.specs.Find.{payload_at, payload_in}
use Rattle.steps.proofs.step.choice_in.Goals as goal

pub returns-in_default : goal.returns-in_default
unfolding payload_in empty named
returns-in_default c = λ s h below next.
    let none : (payload_in s c.args.slot).edit_count ≡ 0 = rw (← c.with_slot.ensures.0 s h, c.in_default.is) in
    absurd (omega (arith, below, none))

pub returns : goal.returns
unfolding payload_in
returns c = λ s h below next.
    let place = c.in-Some.place in
    let inside : place < c.args.outline.count = c.with_slot.ensures.1 _ c.in-Some.is in
    let there : payload_in s c.args.slot ≡ payload_at s place = rw (← c.with_slot.ensures.0 s h, c.in-Some.is) in
    record {
      place = omega (arith, h.count, inside);
      number = rw (sym there) below;
      step = rw (sym there) next;
    }
