-- A stored field lies inside the section that it is made in, and so in the slot.
use Rattle.records.specs.declared.refusal.Reason.{Reason}
use Rattle.std.proofs.Common.{Some, None, Result, Ok, Err}
use Prim.Native.Nat.{ℕ, ◌+◌, ◌≤◌}
use mathlib.Core.Path.{◌≡◌, refl}
use mathlib.Core.Bool.{Bool, true, false}
use native.Mathlib.Omega.{arith}
use borrow.Author.Tests.{leb-true}
use Rattle.words.proofs.Tests.{both}
use Rattle.records.specs.Limits.{placed_max}
use Rattle.elf.specs.declared.Relocation.{Relocation}
use Rattle.machine.specs.Host.{rule_of}
use Rattle.machine.specs.Machine.{Machine}
use Rattle.machine.specs.declared.fields.FieldType.{FieldType}
use Rattle.machine.specs.declared.processor.RelocationType.{RelocationType}
use Rattle.machine.specs.declared.processor.RelocationType.TheVariants.{Nothing, Stores, Unknown}
use Rattle.linking.specs.Linking.{Linking}
use Rattle.linking.specs.Symbols.{symbol_value}
use Rattle.relocation.specs.Relocating.{field_address, checked_field, with_symbol, field_ok, in_field, by_type, field_of, Field, FieldFits, AreaFits}
use Rattle.relocation.specs.declared.fields.Area.{Area}

-- a field that is stored starts in its area and ends in it
abbrev pub LiesIn : Area → Field → Type 0
LiesIn area (Ok (Some s)) = (area.start ≤ s.at) × (s.at + (rule_of s.field).width ≤ area.start + area.size)
LiesIn area (Ok None) = Unit
LiesIn area (Err reason) = Unit

module _ (l : Linking) (area : Area) (r : Relocation) where
  fits-inside : (f : FieldType) → field_ok l area r f ≡ true → r.r_offset + (rule_of f).width ≤ area.size
  unfolding field_ok
  fits-inside f ok = leb-true _ _ (both _ _ ok).0

  module _ (f : FieldType) (fits : r.r_offset + (rule_of f).width ≤ area.size) where
    checked-inside : (value : ℕ) (c : Result (Unit {0}) Reason) → LiesIn area (checked_field f (area.start + r.r_offset) value c)
    checked-inside value (Ok _) = (omega arith, omega arith)
    checked-inside value (Err reason) = tt

    symbol-inside : (s : Result ℕ Reason) → LiesIn area (with_symbol l area r f s)
    symbol-inside (Ok s) =
        let value = (rule_of f).value s r.r_addend (field_address l area r) in
        checked-inside value ((rule_of f).fault value)
    symbol-inside (Err reason) = tt

  in_field-inside : (f : FieldType) → LiesIn area (in_field l area r f)
  in_field-inside f = by_cases (field_ok l area r f) refl
    where
      by_cases : (ok : Bool) → field_ok l area r f ≡ ok → LiesIn area (in_field l area r f)
      by_cases true e = rw e (symbol-inside f (fits-inside f e) (symbol_value l r.r_symbol))
      by_cases false e = rw e tt

  by-type : (t : RelocationType) → LiesIn area (by_type l area r t)
  by-type Nothing = tt
  by-type (Stores f) = in_field-inside f
  by-type Unknown = tt

  pub field-inside : (m : Machine) → LiesIn area (field_of m l area r)
  unfolding field_of
  field-inside m = by-type (m.relocation r.r_type)

-- so it lies in the slot, where its area does
inside-fits : (area : Area) → AreaFits area → (f : Field) → LiesIn area f → FieldFits f placed_max
inside-fits area h (Ok (Some s)) inside = omega arith
inside-fits area h (Ok None) inside = omega arith
inside-fits area h (Err reason) inside = omega arith

pub field_fits : (m : Machine) (l : Linking) (area : Area) (r : Relocation) → AreaFits area → FieldFits (field_of m l area r) placed_max
field_fits m l area r h = inside-fits area h (field_of m l area r) (field-inside l area r m)
