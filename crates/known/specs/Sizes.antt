-- The sizes that follow from the limits of a payload, as numbers: those of document 02, W1, and of the C header.
use Rattle.std.specs.Prelude.{ℕ, ◌+◌, ◌*◌, ◌≡◌}
use Rattle.records.specs.Limits.{records_max}
use Rattle.encode.specs.Encode.{edits_size, summary_size}
use Rattle.memory.specs.Memory.{slot_count, undo_at, undo_size, ids_size}
use Rattle.state_bytes.specs.Layout.{records_size}

pub record KnownSizes : Type 0 where
  -- "The undo store becomes 7,936 bytes (record r of slot s at 31(32s + r))"
  pub undo : undo_size ≡ 7936
  pub undo_record : (s r : ℕ) → undo_at s r ≡ 31 * (32 * s + r)
  -- "and the id store 512"
  pub ids : ids_size ≡ 512
  -- "The 128 work steps of the third demand become 256."
  pub work_steps : slot_count * records_max ≡ 256
  -- the C boundary: edits, summary, records
  pub edits : edits_size ≡ 1536
  pub summary : summary_size ≡ 144
  pub records : records_size ≡ 7044
