-- `outline::outline_of` meets its contract: the first `i` payloads are in both arrays.
use Prim.Native.Nat.{ℕ}
use mathlib.Core.Path.{◌≡◌}
use Rattle.words.specs.Scan.{filled}
use Rattle.memory.specs.Memory.{slot_count}
use Rattle.state.specs.Find.{payload_at}
use Rattle.state.specs.declared.state.State.{State}
use Rattle.outlines.proofs.outline.outline_of.Given as goal

abbrev pub slot-at : State → ℕ → ℕ
slot-at s i = (payload_at s i).slot

abbrev pub edits-at : State → ℕ → ℕ
edits-at s i = (payload_at s i).edit_count

abbrev pub invariant-loop-i : goal.invariant-loop-i
invariant-loop-i l = (l.slots ≡ filled (slot-at l.fn.state) 0 slot_count l.i) × (l.edits ≡ filled (edits-at l.fn.state) 0 slot_count l.i)
