-- The table of known answers holds.
use Rattle.std.proofs.Common.{Ok, Err}
use Prim.Native.Nat.{ℕ, ◌+◌, ◌≤◌, ◌<◌}
use mathlib.Core.Path.{◌≡◌, refl}
use mathlib.Core.Bool.{Bool, true, false, cond, ◌&&◌, and-false}
use mathlib.Core.List.{List, ◌∷◌}
use native.Mathlib.Omega.{arith}
use borrow.Author.Tests.{le-leb}
use lib.Dec.{leb, eqb}
use Rattle.words.specs.Address.{wrapping_sum, wrapping_difference, signed, fits}
use Rattle.words.specs.Number.{le, le_at, le_bytes}
use Rattle.words.specs.Order.{all_zero}
use Rattle.words.specs.Splice.{part}
use Rattle.words.proofs.Addresses.{fits-range, reads-back}
use Rattle.records.specs.Limits.{id_max}
use Rattle.records.specs.Refusal.{reason_for}
use Rattle.records.specs.Verdict.{must}
use Rattle.records.specs.declared.refusal.Place.TheVariants.{Record}
use Rattle.elf.specs.Layout.{note_of}
use Rattle.elf.specs.declared.Relocation as elf
use Rattle.machine.specs.Machine.{edit_bytes}
use Rattle.machine.specs.X86.{x86_64, fits_four_bytes, type_of, jump_length, displacement_of, is_fill_size}
use Rattle.machine.specs.declared.fields.FieldType.TheVariants as field
use Rattle.machine.specs.declared.processor.Processor.TheVariants.{X86_64}
use Rattle.notes.specs.Notes.{id_length, note_head_ok, note_ok}
use Rattle.notes.proofs.NoteLaws.{note-ok-length}
use Rattle.placement.specs.Placement.{is_placed, next_multiple, end_before, offset_of}
use Rattle.linking.specs.Linking.{Linking}
use Rattle.linking.specs.Symbols.{symbol_value}
use Rattle.relocation.specs.Relocating.{field_address, stored_field, field_ok, field_of}
use Rattle.relocation.specs.declared.fields.Area.{Area}
use Rattle.functions.specs.Edits.{form_ok, in_text, addresses_ok, fill_ok, jump_ok, fill_edit, jump_edit, edit_from}
use Rattle.functions.specs.Functions.{edit_verdict}
use Rattle.functions.specs.Patching.{Patching}
use Rattle.functions.specs.declared.function.FunctionRecord.{FunctionRecord}
use Rattle.acceptance.specs.Known.{Relative, Plain, Jumps, bytes_for, KnownAnswers}

-- ---- K1, K2, K8, K9: records

module _ (p : Patching) (at old : ℕ) (f : FunctionRecord) where
  -- x86-64 refuses no address
  addresses-ok : p.host.processor ≡ X86_64 → addresses_ok p old f ≡ true
  addresses-ok machine = rw machine

  -- a right record becomes its edit
  jump-made : Plain p at old f → eqb f.new_addr 0 ≡ false → jump_ok p f ≡ true → edit_from p at old f ≡ jump_edit p old f
  unfolding edit_from
  jump-made plain some right = rw (plain.form, plain.text, addresses-ok plain.machine, some, right)

  fill-made : Plain p at old f → eqb f.new_addr 0 ≡ true → fill_ok p f ≡ true → edit_from p at old f ≡ fill_edit p old f
  unfolding edit_from
  fill-made plain none right = rw (plain.form, plain.text, addresses-ok plain.machine, none, right)

  -- one whose own kind of edit is wrong is refused with 22, whatever its other tests say
  module _ (r : ℕ) where
    -- those other tests
    abbrev others : Bool
    others = form_ok p.placed at f && in_text p old f && addresses_ok p old f

    either_way : (t : Bool) → edit_verdict (cond t (Err (reason_for 22)) (Err (reason_for 22))) r ≡ must false 22 (Record r)
    either_way true = refl
    either_way false = refl

    fill-refused : eqb f.new_addr 0 ≡ true → fill_ok p f ≡ false → edit_verdict (edit_from p at old f) r ≡ must false 22 (Record r)
    unfolding edit_from
    fill-refused none wrong = rw (none, wrong) (either_way others)

    jump-refused : eqb f.new_addr 0 ≡ false → jump_ok p f ≡ false → edit_verdict (edit_from p at old f) r ≡ must false 22 (Record r)
    unfolding edit_from
    jump-refused some wrong = rw (some, wrong) (either_way others)

-- the tests of a fill and of a jump by their sizes
module _ (p : Patching) (f : FunctionRecord) (machine : p.host.processor ≡ X86_64) (n : ℕ) where
  fill-right : f.new_size ≡ n → is_fill_size n ≡ true → n ≤ f.old_size → fill_ok p f ≡ true
  unfolding fill_ok
  fill-right size sized room = rw (machine, size, sized) (le-leb n _ room)

  fill-wrong : f.new_size ≡ n → is_fill_size n ≡ false → fill_ok p f ≡ false
  unfolding fill_ok
  fill-wrong size sized = rw (machine, size, sized)

  jump-wrong : f.old_size ≡ n → leb jump_length n ≡ false → jump_ok p f ≡ false
  unfolding jump_ok
  jump-wrong size short = rw (machine, size, short, and-false)

-- the bytes of a jump that reaches
jump-bytes :
    (p : Patching) (at old new : ℕ) (f : FunctionRecord) → Jumps p at old new f →
    eqb new 0 ≡ false → fits_four_bytes (displacement_of old new) ≡ true →
    bytes_for (edit_from p at old f) ≡ 0xe9 ∷ le_bytes 4 (displacement_of old new)
unfolding jump_edit edit_bytes
jump-bytes p at old new f jumps some near =
    let there : eqb f.new_addr 0 ≡ false = rw jumps.to some in
    rw (jump-made p at old f jumps.plain there jumps.right, jumps.plain.machine, jumps.to, near)

-- ---- K3 to K5: relocations of type 2

module _ (l : Linking) (area : Area) (r : elf.Relocation) where
  -- the result is stored, or refused
  relative-field : (v : ℕ) → Relative l area r v → field_of x86_64 l area r ≡ stored_field field.Relative (area.start + r.r_offset) v
  unfolding field_of type_of field_ok
  relative-field v rel =
      rw (rel.typed, le-leb (r.r_offset + 4) area.size rel.inside, rel.resolved, rel.result)

  -- the result by S, A and P
  relative-by :
      (s a p : ℕ) → r.r_type ≡ 2 → r.r_offset + 4 ≤ area.size → symbol_value l r.r_symbol ≡ Ok s → r.r_addend ≡ a →
      field_address l area r ≡ p → Relative l area r (wrapping_difference (wrapping_sum s a) p)
  relative-by s a p typed inside resolved addend address =
      record { typed = typed; inside = inside; symbol = s; resolved = resolved; result = rw (addend, address) }

-- ---- K7: notes

-- one whose id is too long is wrong
long-id : (note : List ℕ) (d : ℕ) → id_length note ≡ d → id_max < d → note_ok note ≡ false
long-id note d e long = by-test (note_ok note) refl
  where
    by-test : (b : Bool) → note_ok note ≡ b → note_ok note ≡ false
    by-test true h = absurd (omega (arith, note-ok-length note h))
    by-test false h = h

-- ---- the rows

pub known-answers : KnownAnswers
unfolding wrapping_sum wrapping_difference signed fits le le_at le_bytes part all_zero note_of
    displacement_of is_fill_size fits_four_bytes edit_bytes is_placed next_multiple end_before offset_of note_head_ok note_ok
known-answers =
    record {
      k1 = λ p at f jumps. jump-bytes p at _ _ f jumps refl refl;
      k2 = λ p at f jumps. jump-bytes p at _ _ f jumps refl refl;
      k3 = λ l area r image typed inside resolved addend address.
          rw (relative-field l area r _ (relative-by l area r _ _ _ typed inside resolved addend address));
      k4_stands = λ l area r image rel. rw (relative-field l area r _ rel);
      k4_refused = λ l area r i e rel. rw (relative-field l area r _ rel);
      k5_stands = λ l area r image rel. rw (relative-field l area r _ rel);
      k5_refused = λ l area r i e rel. rw (relative-field l area r _ rel);
      k4_k5_range = fits-range;
      k4_k5_stored = reads-back;
      k6 = (refl, refl, refl);
      k7_20 = (refl, refl);
      k7_1 = (refl, refl);
      k7_length = λ note right. (note-ok-length note right).0;
      k7_most = λ note right. omega (arith, note-ok-length note right);
      k7_65 = λ file ss i rest note size. rw (note, long-id _ _ size (omega arith));
      k8_stands = λ p at old f plain none size room.
          rw (fill-made p at old f plain (rw none) (fill-right p f plain.machine _ size refl room), size);
      k8_refused = λ p at old r f machine none size. fill-refused p at old f r (rw none) (fill-wrong p f machine _ size refl);
      k9 = λ p at old r f machine some size. jump-refused p at old f r some (jump-wrong p f machine _ size refl);
    }
