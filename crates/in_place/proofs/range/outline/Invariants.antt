-- `range::outline` meets its contract: the first `i` payloads are in both arrays.
use Prim.Native.Nat.{ℕ}
use mathlib.Core.Path.{◌≡◌}
use mathlib.Core.List.{List}
use Rattle.words.specs.Scan.{filled}
use Rattle.memory.specs.Memory.{slot_count}
use Rattle.state.specs.Find.{payload_at}
use Rattle.state_bytes.specs.Stored.{state_in}
use Rattle.in_place.proofs.range.outline.Given as goal

abbrev pub slot-at : List ℕ → ℕ → ℕ
slot-at b i = (payload_at (state_in b) i).slot

abbrev pub edits-at : List ℕ → ℕ → ℕ
edits-at b i = (payload_at (state_in b) i).edit_count

abbrev pub invariant-loop-i : goal.invariant-loop-i
invariant-loop-i l = (l.slots ≡ filled (slot-at l.b) 0 slot_count l.i) × (l.edits ≡ filled (edits-at l.b) 0 slot_count l.i)
