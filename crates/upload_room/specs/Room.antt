-- The rules of an upload up to its slot, in their order: "lent sizes, name, symbol list, 17, slot, 8, ..".
use Rattle.records.specs.Refusal.{Verdict}
use Rattle.std.specs.Prelude.{ℕ, Bool, not, ◌&&◌, List, eqb, Option, Some, None, Result, Ok, Err}
use Rattle.words.specs.Name.{is_found}
use Rattle.records.specs.Name.{is_name}
use Rattle.records.specs.Verdict.{must, ◌then◌, decide}
use Rattle.records.specs.declared.refusal.Place.TheVariants.{Nowhere}
use Rattle.records.specs.declared.refusal.Refusal.{Refusal}
use Rattle.symbols.specs.SymbolList.{valid}
use Rattle.memory.specs.Memory.{arena_size, ids_size}
use Rattle.state.specs.Find.{with_name, free_slot}
use Rattle.state.specs.declared.state.State.{State}
use Rattle.ranges.specs.Ranges.{in_range}

-- the numbers of the state and the lent sizes are right
unfoldable pub upload_sizes_ok : State → ℕ → ℕ → Bool
upload_sizes_ok s arena ids = in_range s && eqb arena arena_size && eqb ids ids_size

-- "an upload takes the lowest free one"
abbrev pub slot_in : Option ℕ → ℕ
slot_in (Some slot) = slot
slot_in None = 0

abbrev pub slot_for : State → ℕ
slot_for s = slot_in (free_slot s)

-- name to slot
unfoldable pub room_rules : State → List ℕ → List ℕ → Verdict
room_rules s name list =
    must (is_name name) 22 Nowhere
    then must (valid list) 22 Nowhere
    then must (not (is_found (with_name s name))) 17 Nowhere
    then must (is_found (free_slot s)) 12 Nowhere

-- sizes to slot; `arena` and `ids` are lengths
unfoldable pub request_rules : State → ℕ → ℕ → List ℕ → List ℕ → Verdict
request_rules s arena ids name list = must (upload_sizes_ok s arena ids) 22 Nowhere then room_rules s name list

-- the payload's slot, where the rules up to it pass
abbrev pub room_by : State → Verdict → Result ℕ Refusal
room_by s = decide Err (Ok (slot_for s))
