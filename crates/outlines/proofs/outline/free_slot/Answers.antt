-- `outline::free_slot` meets its contract: no slot where the list is full, else the lowest free one.
use native.Mathlib.Omega.{arith}
use borrow.Author.Tests.{lt-ltb, le-ltb}
use Rattle.memory.specs.Memory.{slot_count}
use Rattle.state.specs.Find.{free_slot}
use Rattle.outlines.proofs.outline.free_slot.Goals as goal

pub returns-then-outline-ge-SLOTS : goal.returns-then-outline-ge-SLOTS
unfolding free_slot
returns-then-outline-ge-SLOTS c = λ s h. rw (le-ltb s.count slot_count (omega (arith, h.count, c.if-outline-ge-SLOTS.true)))

pub returns : goal.returns
unfolding free_slot
returns c = λ s h. rw (lt-ltb s.count slot_count (omega (arith, h.count, c.if-outline-ge-SLOTS.false))) (c.lowest_free.ensures s h)
