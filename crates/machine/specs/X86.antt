-- x86-64, as document 01 has it.
use Rattle.std.specs.Prelude.{ℕ, Bool, true, cond, ◌&&◌, ◌||◌, ◌∷◌, leb, eqb, replicate, Ok, Err}
use Rattle.words.specs.Address.{wrapping_sum, wrapping_difference, signed, fits}
use Rattle.words.specs.Number.{le_bytes}
use Rattle.records.specs.Refusal.{reason_for}
use Rattle.machine.specs.Machine.{FieldRule, Machine, edit_max}
use Rattle.machine.specs.declared.fields.FieldType.TheVariants.{Absolute, Relative}
use Rattle.machine.specs.declared.processor.RelocationType.{RelocationType}
use Rattle.machine.specs.declared.processor.RelocationType.TheVariants.{Nothing, Stores, Unknown}

-- "1 stores S + A in 8 bytes"; "What was there before isn't added."
abbrev pub absolute : FieldRule
absolute = record {
  width = 8;
  aligned = λ p. true;
  value = λ s a p. wrapping_sum s a;
  fault = λ v. (Ok tt);
  bytes = λ old v. le_bytes 8 v;
}

-- "read as signed 64-bit, lie in -2^31 to 2^31 - 1"
unfoldable pub fits_four_bytes : ℕ → Bool
fits_four_bytes v = fits 32 (signed 64 v)

-- "2 and 4 store S + A - P in 4"; "A 4-byte result must, read as signed 64-bit, lie in -2^31 to 2^31 - 1": else 34
abbrev pub relative : FieldRule
relative = record {
  width = 4;
  aligned = λ p. true;
  value = λ s a p. wrapping_difference (wrapping_sum s a) p;
  fault = λ v. cond (fits_four_bytes v) (Ok tt) (Err (reason_for 34));
  bytes = λ old v. le_bytes 4 v;
}

-- "Types: 0 does nothing ..; 1 stores S + A in 8 bytes; 2 and 4 store S + A - P in 4. Others: 95."
unfoldable pub type_of : ℕ → RelocationType
type_of t =
    cond (eqb t 0) Nothing
    (cond (eqb t 1) (Stores Absolute)
    (cond (eqb t 2 || eqb t 4) (Stores Relative)
    Unknown))

-- "old_size at least 5"
abbrev pub jump_length : ℕ
jump_length = 5

-- "new_addr - (old address + 5)"
unfoldable pub displacement_of : ℕ → ℕ → ℕ
displacement_of old new = wrapping_difference new (wrapping_sum old jump_length)

-- "new_size 1 to 31"
unfoldable pub is_fill_size : ℕ → Bool
is_fill_size n = leb 1 n && leb n edit_max

abbrev pub x86_64 : Machine
x86_64 = record {
  -- "e_machine 62"
  number = 62;
  relocation = type_of;
  -- no rule asks for an alignment of code
  address = λ a. true;
  jump_length = jump_length;
  displacement = displacement_of;
  -- "in 4 bytes"
  reaches = fits_four_bytes;
  -- "The edit is e9 and new_addr - (old address + 5) in 4 bytes."
  jump_bytes = λ d. 0xe9 ∷ le_bytes 4 d;
  fill_size = is_fill_size;
  -- "The edit is new_size bytes 90."
  fill_bytes = λ n. replicate n 0x90;
}
