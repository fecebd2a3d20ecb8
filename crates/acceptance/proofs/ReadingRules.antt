-- The rules of the reading: where it passes, each is kept, and where it refuses, the one that it names is broken.
use Prim.Native.Nat.{ℕ, zero, suc, ◌<◌}
use mathlib.Core.Path.{◌≡◌, sym, ◌∙◌}
use mathlib.Core.Bool.{Bool, true, false, ◌&&◌, not, true≢false}
use mathlib.Core.List.{List}
use native.Mathlib.Omega.{arith}
use borrow.Author.Tests.{eqb-true, not-true, not-false}
use lib.Dec.{eqb}
use lib.ListN.{length}
use Rattle.words.proofs.Tests.{both, either-fails}
use Rattle.records.specs.Refusal.{number_of, reason_for}
use Rattle.records.specs.Verdict.{must}
use Rattle.records.specs.declared.refusal.Place.{Place}
use Rattle.records.specs.declared.refusal.Place.TheVariants.{Section}
use Rattle.elf.specs.Layout.{file_header_of}
use Rattle.elf.specs.Name.{is_named}
use Rattle.header.specs.Header.{size_ok, fields_ok, table_inside, header_rules}
use Rattle.kinds.specs.Kinds.{has_type, is_kind, is_note_kind}
use Rattle.kinds.specs.declared.Kind.TheVariants.{Unnamed, Records, Depends, BuildId, Symbols, Relocations, Unknown}
use Rattle.object.specs.Sections.{
  section_count,
  sections,
  section_name,
  name_table_ok,
  name_table_rules,
  known_type,
  known_flags,
  alignment_ok,
  contents_ok,
  section_rules,
  sections_rules,
}
use Rattle.object.proofs.SectionLaws.{read-typed, unnamed_told, section-in}
use Rattle.notes.specs.Notes.{note_ok, note_rules}
use Rattle.payload.specs.Counts.{symbol_table_ok, records_size_ok, count_rules}
use Rattle.payload.specs.Reading.{table_rules, read_rules}
use Rattle.payload.specs.RelocationHeaders.{relocation_header_ok, relocation_header_rules}
use Rattle.acceptance.specs.Broken.{Broken}
use Rattle.acceptance.specs.Keeps.{KeepsReading}
use Rattle.acceptance.specs.Rules.{section, contents_at, Consults}
use Rattle.acceptance.specs.Stages.{Setting, machine_at, kind_count, kind_index, records_index}
use Rattle.acceptance.proofs.Told.{Tells, told-as, told-must, ◌told-then◌, told-where, told-unless, told-scan}

-- a check that a test does not hold
told-not :
    {t : Setting} {file : List ℕ} (test : Bool) (number : ℕ) (place : Place) → (test ≡ true → Broken t file (number_of (reason_for number)) place) →
    Tells t file (test ≡ false) (must (not test) number place)
told-not test number place broken = told-as (not-true test) (told-must (not test) number place (λ h. broken (not-false test h)))

module _ (t : Setting) (file : List ℕ) where
  header-told :
      Tells t file
      ((size_ok (length file) ≡ true)
      × (fields_ok (machine_at t) (file_header_of file) ≡ true)
      × (table_inside (file_header_of file) (length file) ≡ true))
      (header_rules (machine_at t) file)
  unfolding header_rules
  header-told =
      let size = size_ok (length file) in
      let fields = fields_ok (machine_at t) (file_header_of file) in
      let inside = table_inside (file_header_of file) (length file) in
      told-as
      (λ all.
      let right = both (size && fields) inside all in
      let front = both size fields right.0 in
      (front.0, front.1, right.1))
      (told-must _ _ _ (either-fails (size && fields) inside (either-fails size fields Broken.file_size Broken.header) Broken.section_table))

  name_table-told : Tells t file (name_table_ok file ≡ true) (name_table_rules file)
  unfolding name_table_rules
  name_table-told = told-must _ _ _ Broken.name_table

  -- ---- the sections

  -- section 0 is of type 0, so one of another type is a later one
  after-0 : has_type 0 (section file 0).header ≡ true → (i : ℕ) → has_type 0 (section file i).header ≡ false → 0 < i
  after-0 null zero typed = absurd (true≢false (sym null ∙ typed))
  after-0 null (suc i) typed = omega arith

  module _ (i : ℕ) where
    -- the rules of section i: "name, type, flags, kind, alignment, contents"
    abbrev SectionKept : Type 0
    SectionKept =
        (is_named (section_name file i) ≡ true)
        × ((known_type (section file i).header ≡ true)
        × ((known_flags (section file i).header ≡ true)
        × ((is_kind (section file i).kind Unknown ≡ false)
        × ((alignment_ok (section file i).header ≡ true)
        × (contents_ok (section file i).header (length file) ≡ true)))))

    -- a section whose name counts has none exactly where its kind says so
    unnamed : Consults file i → is_kind (section file i).kind Unnamed ≡ not (is_named (section_name file i))
    unnamed c =
        let read = section-in file i c.below in
        rw read (unnamed_told file i (sym (read-typed file i 0) ∙ rw read at c.typed))

    name-told :
        Consults file i →
        Tells t file (is_named (section_name file i) ≡ true) (must (not (is_kind (section file i).kind Unnamed)) 22 (Section i))
    name-told c =
        told-as (λ h. not-false _ (sym (unnamed c) ∙ h))
        (told-not _ _ _ λ h. Broken.names i c (not-true _ (sym (unnamed c) ∙ h)))

    section-told :
        has_type 0 (section file 0).header ≡ true → i < section_count file →
        Tells t file (has_type 0 (section file i).header ≡ false → SectionKept) (section_rules (length file) i (section file i))
    unfolding section_rules
    section-told null below =
        told-unless _ _ λ typed.
        let consults : Consults file i = record { above = after-0 null i typed; below = below; typed = typed } in
        name-told consults
        told-then λ named. told-must _ _ _ (Broken.types i consults)
        told-then λ known. told-must _ _ _ (Broken.flags i consults)
        told-then λ flags. told-not _ _ _ (Broken.kinds i consults)
        told-then λ kind. told-must _ _ _ (Broken.alignments i consults)
        told-then λ aligned. told-must _ _ _ (Broken.contents i consults)

  sections-told :
      Tells t file
      ((has_type 0 (section file 0).header ≡ true)
      × ((i : ℕ) → i < section_count file → has_type 0 (section file i).header ≡ false → SectionKept i))
      (sections_rules (length file) (sections file) (section_count file))
  unfolding sections_rules
  sections-told =
      told-must _ _ _ Broken.section_0
      told-then λ null. told-scan (λ i. section_rules (length file) i (section file i)) _ (λ i below before. section-told i null below)

  -- ---- counts, type 4 headers, notes

  counts-told :
      Tells t file
      ((eqb (kind_count file Symbols) 1 ≡ true)
      × ((symbol_table_ok (sections file) (section_count file) (section file (kind_index file Symbols)).header ≡ true)
      × ((eqb (kind_count file Records) 1 ≡ true)
      × ((eqb (kind_count file Depends) 1 ≡ true)
      × ((eqb (kind_count file BuildId) 1 ≡ true)
      × (records_size_ok (section file (records_index file)).header ≡ true))))))
      (count_rules (sections file) (section_count file))
  unfolding count_rules
  counts-told =
      told-must _ _ _ Broken.one_symbol_table
      told-then λ table. told-must _ _ _ (Broken.symbol_table (eqb-true _ _ table))
      told-then λ right. told-must _ _ _ Broken.one_funcs
      told-then λ funcs. told-must _ _ _ Broken.one_depends
      told-then λ depends. told-must _ _ _ Broken.one_build_id
      told-then λ id. told-must _ _ _ (Broken.funcs_size (eqb-true _ _ funcs))

  abbrev header_ok : ℕ → Bool
  header_ok i = relocation_header_ok (sections file) (section_count file) (kind_index file Symbols) (section file i)

  relocation_headers-told :
      kind_count file Symbols ≡ 1 →
      Tells t file
      ((i : ℕ) → i < section_count file → is_kind (section file i).kind Relocations ≡ true → header_ok i ≡ true)
      (relocation_header_rules (sections file) (section_count file) (kind_index file Symbols))
  unfolding relocation_header_rules
  relocation_headers-told table =
      told-scan _ _ λ i below before. told-where _ _ λ kind. told-must _ 22 _ (Broken.relocation_headers i below table kind)

  notes-told :
      Tells t file
      ((i : ℕ) → i < section_count file → is_note_kind (section file i).kind ≡ true → note_ok (contents_at file i) ≡ true)
      (note_rules file (sections file) (section_count file))
  unfolding note_rules
  notes-told = told-scan _ _ λ i below before. told-where _ _ λ kind. told-must _ 22 _ (Broken.notes i below kind)

  pub reading-told : Tells t file (KeepsReading (machine_at t) file) (read_rules (machine_at t) file)
  unfolding read_rules table_rules
  reading-told =
      told-as
      (λ all.
      let of-sections = all.1.1.0 in
      let of-counts = all.1.1.1.0 in
      let rest = all.1.1.1.1 in
      record {
        file_size = all.0.0;
        header = all.0.1;
        section_table = all.0.2;
        name_table = all.1.0;
        section_0 = of-sections.0;
        names = λ i c. (of-sections.1 i c.below c.typed).0;
        types = λ i c. (of-sections.1 i c.below c.typed).1.0;
        flags = λ i c. (of-sections.1 i c.below c.typed).1.1.0;
        kinds = λ i c. (of-sections.1 i c.below c.typed).1.1.1.0;
        alignments = λ i c. (of-sections.1 i c.below c.typed).1.1.1.1.0;
        contents = λ i c. (of-sections.1 i c.below c.typed).1.1.1.1.1;
        one_symbol_table = eqb-true _ _ of-counts.0;
        symbol_table = of-counts.1.0;
        one_funcs = eqb-true _ _ of-counts.1.1.0;
        one_depends = eqb-true _ _ of-counts.1.1.1.0;
        one_build_id = eqb-true _ _ of-counts.1.1.1.1.0;
        funcs_size = of-counts.1.1.1.1.1;
        relocation_headers = rest.0;
        notes = rest.1;
      })
      (header-told
      told-then λ header. name_table-told
      told-then λ names. sections-told
      told-then λ right. counts-told
      told-then λ counts. relocation_headers-told (eqb-true _ _ counts.0)
      told-then λ headers. notes-told)
