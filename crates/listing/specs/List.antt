-- Document 01: "List(idx, nr) writes entries from idx, at most nr".
use Rattle.records.specs.Refusal.{Verdict}
use Rattle.std.specs.Prelude.{ℕ, ◌*◌, ◌-◌, min, Bool, ◌&&◌, List, [], ◌∷◌, ◌++◌, leb, length, Result, Ok, Err}
use Rattle.words.specs.Number.{le_bytes}
use Rattle.words.specs.Splice.{part, splice}
use Rattle.records.specs.Limits.{name_max}
use Rattle.records.specs.Verdict.{must, ◌then◌, decide}
use Rattle.records.specs.declared.payload.Payload.{Payload}
use Rattle.records.specs.declared.refusal.Place.TheVariants.{Nowhere}
use Rattle.records.specs.declared.refusal.Refusal.{Refusal}
use Rattle.memory.specs.Memory.{slot_count}
use Rattle.state.specs.State.{result_word, loaded}
use Rattle.state.specs.declared.state.State.{State}
use Rattle.ranges.specs.Ranges.{in_range}
use Rattle.listing.specs.declared.Listed.{Listed}

-- "status and result (4 + 4 bytes), name (128), length (4), little-endian"
abbrev pub status_and_result : ℕ → ℕ → List ℕ
status_and_result status result = le_bytes 4 status ++ le_bytes 4 (result_word result)

abbrev pub status_bytes : Payload → List ℕ
status_bytes p = status_and_result p.status p.result

abbrev pub name_bytes : Payload → List ℕ
name_bytes p = p.name

abbrev pub length_bytes : Payload → List ℕ
length_bytes p = le_bytes 4 p.name_length

-- the bytes of each payload, one after the other
unfoldable pub joined : (Payload → List ℕ) → List Payload → List ℕ
joined bytes [] = []
joined bytes (p ∷ ps) = bytes p ++ joined bytes ps

-- "in three lent buffers"
pub record Buffers : Type 0 where
  pub statuses : List ℕ
  pub names : List ℕ
  pub lengths : List ℕ

abbrev pub buffers : List ℕ → List ℕ → List ℕ → Buffers
buffers statuses names lengths = record { statuses = statuses; names = names; lengths = lengths }

-- "with room for nr"
unfoldable pub has_room : ℕ → ℕ → ℕ → ℕ → Bool
has_room nr statuses names lengths = leb (8 * nr) statuses && leb (name_max * nr) names && leb (4 * nr) lengths

-- "List order: lent sizes, 7, idx, room.", with buffers of these sizes
unfoldable pub list_rules_for : State → ℕ → ℕ → ℕ → ℕ → ℕ → Verdict
list_rules_for s idx nr statuses names lengths =
    must (in_range s) 22 Nowhere
    then must (leb nr slot_count) 7 Nowhere
    then must (leb idx s.count) 22 Nowhere
    then must (has_room nr statuses names lengths) 22 Nowhere

abbrev pub list_rules : State → ℕ → ℕ → Buffers → Verdict
list_rules s idx nr b = list_rules_for s idx nr (length b.statuses) (length b.names) (length b.lengths)

-- "at most nr"
abbrev pub written_count : State → ℕ → ℕ → ℕ
written_count s idx nr = min nr (s.count - idx)

-- the payloads of which entries are written
abbrev pub listed_payloads : State → ℕ → ℕ → List Payload
listed_payloads s idx nr = part (loaded s) idx (written_count s idx nr)

-- entries over the first bytes of the buffers; "other bytes stay"
abbrev pub written_over : List Payload → Buffers → Buffers
written_over ps b =
    buffers (splice b.statuses 0 (joined status_bytes ps)) (splice b.names 0 (joined name_bytes ps))
    (splice b.lengths 0 (joined length_bytes ps))

-- the answer, and the three buffers after it
pub record Listing : Type 0 where
  pub answer : Result Listed Refusal
  pub after : Buffers

abbrev pub listing : Result Listed Refusal → Buffers → Listing
listing answer after = record { answer = answer; after = after }

-- "It returns count written, count left, version."
abbrev pub accepted_list : State → ℕ → ℕ → Listed
accepted_list s idx nr =
    record {
      written = written_count s idx nr;
      left = s.count - idx - written_count s idx nr;
      version = s.version;
    }

unfoldable pub list_of : State → ℕ → ℕ → Buffers → Listing
list_of s idx nr b =
    decide (λ r. listing (Err r) b) (listing (Ok (accepted_list s idx nr)) (written_over (listed_payloads s idx nr) b))
    (list_rules s idx nr b)
