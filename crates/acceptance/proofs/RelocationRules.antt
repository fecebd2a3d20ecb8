-- The rules of relocations: where all pass, each is kept, and where one refuses, that one is broken.
use Rattle.records.specs.declared.refusal.Reason.{Reason}
use Rattle.std.proofs.Common.{Ok, Err, Result, ℕ}
use Prim.Native.Nat.{ℕ, ◌+◌, ◌<◌}
use mathlib.Core.Path.{◌≡◌, refl, subst}
use mathlib.Core.Bool.{Bool, true, ◌&&◌}
use mathlib.Core.List.{List}
use borrow.Author.Tests.{leb-true}
use lib.Dec.{leb}
use Rattle.words.proofs.Tests.{both, either-fails}
use Rattle.elf.specs.declared.Relocation.{Relocation}
use Rattle.machine.specs.Host.{rule_of}
use Rattle.machine.specs.declared.fields.FieldType.{FieldType}
use Rattle.machine.specs.declared.processor.RelocationType.{RelocationType}
use Rattle.machine.specs.declared.processor.RelocationType.TheVariants.{Nothing, Stores, Unknown}
use Rattle.kinds.specs.Kinds.{is_kind}
use Rattle.kinds.specs.declared.Kind.TheVariants.{Relocations}
use Rattle.object.specs.Sections.{section_count, sections}
use Rattle.object.specs.declared.sections.SectionEntry.{SectionEntry}
use Rattle.linking.specs.Linking.{Linking}
use Rattle.reader.specs.Entries.{relocation_count}
use Rattle.relocation.specs.Relocating.{Field, checked_field, with_symbol, field_ok, in_field, by_type, field_of, field_verdict, is_relocating}
use Rattle.acceptance.specs.Broken.Broken.{
  relocation_types,
  relocation_fields,
  relocation_places,
  relocation_symbols,
  relocation_ranges,
}
use Rattle.acceptance.specs.Keeps.{KeepsReading, KeepsRelocations}
use Rattle.acceptance.specs.Rules.{section, contents_at, Made, relocation_at, type_at, area_at, place_at, symbol_at, result_at}
use Rattle.acceptance.specs.Stages.{Setting, machine_at, linking_for, relocated_of}
use Rattle.acceptance.proofs.RelocationVerdict.{field_at, entry_rules, section_rules, relocated-verdict}
use Rattle.acceptance.proofs.Told.{by-test, Tells, passes, refuses, told-as, told-where, told-scan}

-- a section whose relocations are made is a relocation section
relocating-kind : (ss : List SectionEntry) (s : SectionEntry) → is_relocating ss s ≡ true → is_kind s.kind Relocations ≡ true
unfolding is_relocating
relocating-kind ss s e = (both _ _ e).0

-- a symbol has one value
same-value : {v : Result ℕ Reason} {a b : ℕ} → v ≡ Ok a → v ≡ Ok b → a ≡ b
same-value h g = cc

module _ (t : Setting) (file : List ℕ) where
  abbrev l : Linking
  l = linking_for t file

  -- ---- one relocation: entry e of section i

  module _ (i e : ℕ) where
    abbrev entry : Relocation
    entry = relocation_at file i e

    abbrev type : RelocationType
    type = type_at (machine_at t) file i e

    -- its field lies inside the section, and stands where the machine lets it
    abbrev inside : FieldType → Bool
    inside f = leb (entry.r_offset + (rule_of f).width) (area_at file i).size

    abbrev aligned : FieldType → Bool
    aligned f = (rule_of f).aligned (place_at t file i e)

    -- the rules of one that stores a field of this type
    record Stored (f : FieldType) : Type 0 where
      in-section : inside f ≡ true
      in_place : aligned f ≡ true
      symbol : ℕ
      valued : symbol_at t file i e ≡ Ok symbol
      ranged : (rule_of f).fault (result_at t file i e f symbol) ≡ Ok tt

    -- the rules of one of any type
    abbrev Kept : RelocationType → Type 0
    Kept Nothing = Unit {0}
    Kept (Stores f) = Stored f
    Kept Unknown = ⊥

    -- what the field, or the fault, tells of it
    abbrev Told : Type 0 → Field → Type 0
    Told K field = Tells t file K (field_verdict field i e)

    module _ (made : Made file i e) where
      module _ (f : FieldType) (stores : type ≡ Stores f) where
        module _ (in-section : inside f ≡ true) (in_place : aligned f ≡ true) where
          -- by what is wrong with its value, if anything is
          by_value :
              (s at : ℕ) → symbol_at t file i e ≡ Ok s → (c : Result (Unit {0}) Reason) → (rule_of f).fault (result_at t file i e f s) ≡ c →
              Told (Stored f) (checked_field f at (result_at t file i e f s) c)
          by_value s at same (Ok _) ranged =
              passes record { in-section = in-section; in_place = in_place; symbol = s; valued = same; ranged = ranged }
          by_value s at same (Err reason) beyond = refuses (relocation_ranges i e s f reason made stores same beyond)

          -- by its symbol
          by-symbol : (s : Result ℕ Reason) → symbol_at t file i e ≡ s → Told (Stored f) (with_symbol l (area_at file i) entry f s)
          by-symbol (Ok s) same = by_value s _ same ((rule_of f).fault (result_at t file i e f s)) refl
          by-symbol (Err reason) same = refuses (relocation_symbols i e f reason made stores same)

        -- by its field
        by_field : Told (Stored f) (in_field l (area_at file i) entry f)
        unfolding field_ok
        by_field =
            by-test (Told (Stored f)) (inside f && aligned f) _ _
            (λ right. let h = both (inside f) (aligned f) right in by-symbol h.0 h.1 (symbol_at t file i e) refl)
            (either-fails (inside f) (aligned f)
            (λ h. refuses (relocation_fields i e f made stores h))
            (λ h. refuses (relocation_places i e f made stores h)))

      -- by its type
      by-type : (ty : RelocationType) → type ≡ ty → Told (Kept ty) (by_type l (area_at file i) entry ty)
      by-type Nothing same = passes tt
      by-type (Stores f) same = by_field f same
      by-type Unknown same = refuses (relocation_types i e made same)

      -- what the verdict on it tells
      told : Told (Kept type) (field_at t file i e)
      unfolding field_of
      told = by-type type refl

  -- ---- all relocations

  -- where the rules of each are kept, all rules of relocations are
  all-kept :
      ((i : ℕ) → i < section_count file → is_relocating (sections file) (section file i) ≡ true →
      (e : ℕ) → e < relocation_count (contents_at file i) → Kept i e (type i e)) →
      KeepsRelocations t file
  all-kept all =
      record {
        relocation_types = λ i e made same. kept i e made same;
        relocation_fields = λ i e f made same. leb-true _ _ (kept i e made same).in-section;
        relocation_places = λ i e f made same. (kept i e made same).in_place;
        relocation_symbols = λ i e f made same. ((kept i e made same).symbol, (kept i e made same).valued);
        relocation_ranges = λ i e s f made same value.
            let stored = kept i e made same in
            rw (same-value value stored.valued) stored.ranged;
      }
    where
      kept : (i e : ℕ) → Made file i e → {ty : RelocationType} → type i e ≡ ty → Kept i e ty
      kept i e made same = subst (Kept i e) same (all i made.below made.relocating e made.counted)

  pub relocations-told : KeepsReading (machine_at t) file → Tells t file (KeepsRelocations t file) (relocated_of t file).verdict
  relocations-told reading =
      rw (relocated-verdict t file)
      (told-as all-kept
      (told-scan (section_rules t file) (section_count file) λ i below earlier.
      told-where _ (entry_rules t file i) λ relocating.
      let headed = reading.relocation_headers i below (relocating-kind _ _ relocating) in
      told-scan (λ e. field_verdict (field_at t file i e) i e) _ λ e counted before.
      told i e (record { below = below; relocating = relocating; headed = headed; counted = counted })))
