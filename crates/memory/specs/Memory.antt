-- Document 01, "What the keeper lends": the sizes, and where each slot and each entry of the stores begins. All come from the payload's limits.
use Rattle.std.specs.Prelude.{ℕ, ◌+◌, ◌*◌}
use Rattle.records.specs.Limits.{placed_max, records_max, id_max}
use Rattle.machine.specs.Machine.{edit_max}

-- "slot s (0 to 7)"
abbrev pub slot_count : ℕ
slot_count = 8

-- "Arena: exactly 65,536 bytes"; "slot s .. is bytes 8,192s on"
abbrev pub slot_at : ℕ → ℕ
slot_at slot = placed_max * slot

abbrev pub arena_size : ℕ
arena_size = slot_at slot_count

-- "Undo store, 7,936 bytes: record r of slot s has 31 bytes at 31(32s + r)" (W1)
abbrev pub undo_at : ℕ → ℕ → ℕ
undo_at slot r = edit_max * (records_max * slot + r)

abbrev pub undo_size : ℕ
undo_size = undo_at slot_count 0

-- the undo records of one slot
abbrev pub slot_undo_size : ℕ
slot_undo_size = edit_max * records_max

-- "Id store, 512 bytes: slot s has 64 bytes" (W1)
abbrev pub id_at : ℕ → ℕ
id_at slot = id_max * slot

abbrev pub ids_size : ℕ
ids_size = id_at slot_count
