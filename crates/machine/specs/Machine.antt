-- What depends on the processor, and nothing else does: every other definition is handed a `Machine`.
use Rattle.records.specs.declared.refusal.Reason.{Reason}
use Rattle.std.specs.Prelude.{ℕ, Bool, List, Result}
use Rattle.records.specs.declared.payload.Edit.{Edit}
use Rattle.records.specs.declared.payload.EditKind.{EditKind}
use Rattle.records.specs.declared.payload.EditKind.TheVariants.{Jump, Fill}
use Rattle.machine.specs.declared.processor.RelocationType.{RelocationType}

-- how a relocation that stores a field does so
pub record FieldRule : Type 0 where
  -- the field's bytes
  pub width : ℕ
  -- whether the field may stand at the address P
  pub aligned : ℕ → Bool
  -- the value, of S, A and P
  pub value : ℕ → ℕ → ℕ → ℕ
  -- what is wrong with a value
  pub fault : ℕ → Result (Unit {0}) Reason
  -- the field's new bytes, of its old ones and the value
  pub bytes : List ℕ → ℕ → List ℕ

pub record Machine : Type 0 where
  -- the e_machine of its files
  pub number : ℕ
  -- which relocation types are known, and which of them store a field
  pub relocation : ℕ → RelocationType
  -- whether code may stand at an address, old or new
  pub address : ℕ → Bool
  -- the jump: its bytes' number, the displacement from an old address to a new one, whether it reaches, and its bytes
  pub jump_length : ℕ
  pub displacement : ℕ → ℕ → ℕ
  pub reaches : ℕ → Bool
  pub jump_bytes : ℕ → List ℕ
  -- the fill: which sizes it may have, and its bytes
  pub fill_size : ℕ → Bool
  pub fill_bytes : ℕ → List ℕ

-- no edit has more bytes: document 01's undo store has "31 bytes" for a record
abbrev pub edit_max : ℕ
edit_max = 31

-- the bytes of an edit of this kind and length
abbrev pub kind_bytes : Machine → EditKind → ℕ → List ℕ
kind_bytes m (Jump d) n = m.jump_bytes d
kind_bytes m Fill n = m.fill_bytes n

-- the bytes that an edit puts into the text
unfoldable pub edit_bytes : Machine → Edit → List ℕ
edit_bytes m e = kind_bytes m e.kind e.length
