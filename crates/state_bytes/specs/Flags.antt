-- What bytes of the right number must keep to be those of a state: bytes that stand for one of two cases have one of two values.
use Rattle.std.specs.Prelude.{ℕ, ◌+◌, ◌*◌, Bool, true, cond, ◌&&◌, List, eqb, leb}
use Rattle.words.specs.Find.{every}
use Rattle.words.specs.Number.{le_at}
use Rattle.words.specs.Scan.{scan}
use Rattle.words.specs.Splice.{part}
use Rattle.records.specs.Limits.{records_max}
use Rattle.memory.specs.Config.{cpus_max}
use Rattle.memory.specs.Memory.{slot_count}
use Rattle.state_bytes.specs.Layout.{edit_size, edits_place, payload_size, held_place, payloads_place}

-- a test holds of every number below n
abbrev pub all_below : (ℕ → Bool) → ℕ → Bool
all_below test n = scan (λ i rest. test i && rest) true 0 n

-- a CPU is held or not
unfoldable pub flags_ok : List ℕ → Bool
flags_ok b = every (λ byte. leb byte 1) (part b held_place cpus_max)

-- the edit at this place is a jump, or no-ops, which have no displacement
unfoldable pub kind_ok : List ℕ → ℕ → Bool
kind_ok b at = cond (eqb (le_at 4 b (at + 8)) 0) (eqb (le_at 8 b (at + 12)) 0) (eqb (le_at 4 b (at + 8)) 1)

-- the edits from this place on
unfoldable pub edits_ok : List ℕ → ℕ → Bool
edits_ok b at = all_below (λ i. kind_ok b (at + edit_size * i)) records_max

unfoldable pub kinds_ok : List ℕ → Bool
kinds_ok b = all_below (λ i. edits_ok b (payloads_place + payload_size * i + edits_place)) slot_count
