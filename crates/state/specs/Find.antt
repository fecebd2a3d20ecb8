-- Payloads by name and by slot, and the slot that an upload takes.
use Rattle.std.specs.Prelude.{ℕ, Bool, cond, List, ltb, eqb, get_or, Some, None, Option}
use Rattle.words.specs.Find.{first_where}
use Rattle.words.specs.Name.{is_found}
use Rattle.words.specs.Order.{equal}
use Rattle.words.specs.Scan.{scan}
use Rattle.records.specs.Payload.{empty}
use Rattle.records.specs.declared.payload.Payload.{Payload}
use Rattle.memory.specs.Memory.{slot_count}
use Rattle.state.specs.State.{loaded, name_of}
use Rattle.state.specs.declared.state.State.{State}

-- whether a payload has this name: its length and bytes
abbrev pub is_named : List ℕ → Payload → Bool
is_named name p = equal (name_of p) name

abbrev pub is_in : ℕ → Payload → Bool
is_in slot p = eqb p.slot slot

-- the place in the list of the payload of this name, and of the one in this slot
unfoldable pub with_name : State → List ℕ → Option ℕ
with_name s name = first_where (is_named name) (loaded s)

unfoldable pub with_slot : State → ℕ → Option ℕ
with_slot s slot = first_where (is_in slot) (loaded s)

-- whether a payload is in this slot
abbrev pub is_taken : State → ℕ → Bool
is_taken s slot = is_found (with_slot s slot)

-- the lowest slot that no payload is in
unfoldable pub lowest_free : State → Option ℕ
lowest_free s = scan (λ slot rest. cond (is_taken s slot) rest (Some slot)) None 0 slot_count

-- "an upload takes the lowest free one"; where 8 payloads are loaded none is free
unfoldable pub free_slot : State → Option ℕ
free_slot s = cond (ltb s.count slot_count) (lowest_free s) None

-- the payload at a place in the list
abbrev pub payload_at : State → ℕ → Payload
payload_at s i = get_or s.payloads i empty

abbrev pub payload_found : State → Option ℕ → Payload
payload_found s (Some i) = payload_at s i
payload_found s None = empty

-- the payload in a slot
unfoldable pub payload_in : State → ℕ → Payload
payload_in s slot = payload_found s (with_slot s slot)
