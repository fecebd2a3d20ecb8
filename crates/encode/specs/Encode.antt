-- What the C boundary writes of a prepared payload: edits in entries of 48 bytes, and a summary with both ids.
use Rattle.std.specs.Prelude.{ℕ, zero, suc, ◌+◌, ◌*◌, ◌-◌, ◌≤◌, ◌<◌, ◌^◌, cond, List, [], ◌++◌, ltb, length, get_or, replicate}
use Rattle.words.specs.Number.{le_bytes}
use Rattle.records.specs.Limits.{records_max, id_max}
use Rattle.records.specs.Payload.{no_edit}
use Rattle.records.specs.declared.payload.BuildId.{BuildId}
use Rattle.records.specs.declared.payload.Edit.{Edit}
use Rattle.machine.specs.Machine.{Machine, edit_bytes, edit_max}

-- an entry: address in 8 little-endian bytes, length in 4, then the edit's bytes, zeros after them
abbrev pub entry_size : ℕ
entry_size = 48

-- what an entry has for an edit's bytes
abbrev pub edit_room : ℕ
edit_room = entry_size - 12

unfoldable pub edit_entry : Machine → ℕ → Edit → List ℕ
edit_entry m text e =
    le_bytes 8 (text + e.offset) ++ le_bytes 4 e.length ++ edit_bytes m e ++ replicate (edit_room - length (edit_bytes m e)) 0

-- entry r: that of edit r, or zeros behind the last
unfoldable pub row_of : Machine → ℕ → List Edit → ℕ → ℕ → List ℕ
row_of m text es n r = cond (ltb r n) (edit_entry m text (get_or es r no_edit)) (replicate entry_size 0)

-- the first k entries
unfoldable pub rows : Machine → ℕ → List Edit → ℕ → ℕ → List ℕ
rows m text es n zero = []
rows m text es n (suc k) = rows m text es n k ++ row_of m text es n k

-- all entries: one for each record that a payload may have
abbrev pub edit_table : Machine → ℕ → List Edit → ℕ → List ℕ
edit_table m text es n = rows m text es n records_max

abbrev pub edits_size : ℕ
edits_size = entry_size * records_max

-- the summary: placed length, edit count, id length, dependency length, each in 4 little-endian bytes; then both ids in `id_max` bytes each
abbrev pub summary_size : ℕ
summary_size = 16 + 2 * id_max

unfoldable pub summary_of : ℕ → ℕ → BuildId → BuildId → List ℕ
summary_of placed count id dependency =
    le_bytes 4 placed ++ le_bytes 4 count ++ le_bytes 4 id.length ++ le_bytes 4 dependency.length ++ id.bytes ++ dependency.bytes

-- every edit has an address, and its bytes fit an entry
pub record Fitting (m : Machine) (text : ℕ) (es : List Edit) (n : ℕ) : Type 0 where
  pub addressed : (r : ℕ) → r < n → text + (get_or es r no_edit).offset < 2 ^ 64
  pub short : (r : ℕ) → r < n → length (edit_bytes m (get_or es r no_edit)) ≤ edit_max
