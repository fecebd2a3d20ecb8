-- Document 01: "Payloads that differ only in bytes of ignored contents, within no other consulted range, get the same answer and memory."
use Rattle.records.specs.Refusal.{Verdict}
use Rattle.std.proofs.Common.{Ok, Err}
use Prim.Native.Nat.{ℕ}
use mathlib.Core.Path.{◌≡◌, refl, ap, ◌∙◌}
use mathlib.Core.Bool.{Bool, true, false, or-true}
use mathlib.Core.List.{List}
use native.Mathlib.Omega.{arith}
use borrow.Author.Tests.{eqb-true, eqb-false}
use lib.Dec.{eqb}
use lib.ListN.{get_or}
use Rattle.records.specs.Verdict.{◌then◌}
use Rattle.records.proofs.Checks.{then-pass}
use Rattle.elf.specs.declared.SectionHeader.{SectionHeader}
use Rattle.machine.specs.Machine.{Machine}
use Rattle.kinds.specs.Kinds.{is_kind}
use Rattle.kinds.specs.declared.Kind.{Kind}
use Rattle.kinds.specs.declared.Kind.TheVariants.{Depends, BuildId, Symbols}
use Rattle.object.specs.Sections.{section_count, sections, section_in, contents_of, name_table_rules}
use Rattle.object.specs.declared.sections.SectionEntry.{SectionEntry}
use Rattle.notes.specs.Notes.{id_in}
use Rattle.payload.specs.Counts.{count_of, index_of, symbol_table_ok}
use Rattle.payload.specs.Reading.{table_rules, read_rules, id_of, accepted_reading}
use Rattle.payload.proofs.CountLaws.{CountsPass, index-found, symbols-linked}
use Rattle.payload.proofs.ReadingLaws.{ReadPasses, read-passes}
use Rattle.placement.specs.Placement.{image_before}
use Rattle.linking.specs.Linking.{Linking}
use Rattle.relocation.specs.Relocating.{Relocated, linking_of, relocate_all}
use Rattle.acceptance.specs.Consulted.{is_read, Consulted, Alike, DifferInIgnored}
use Rattle.acceptance.specs.Stages.{Setting, machine_at, relocated_of, build_rules, payload_rules}
use Rattle.acceptance.proofs.AlikeSections.{count-alike, header-rules-alike, name_table-rules-alike, read_alike, sections-alike}
use Rattle.acceptance.proofs.AlikeStages.{SameContents, notes-alike, image-alike, relocate-alike}
use Rattle.acceptance.proofs.ReadSections.{note-read, symbols-read, strings-read}

-- what an answer is made of: the slot's length, the records and the edits are made of the sections and the slot's bytes
abbrev pub Given : Setting → List ℕ → List ℕ → Type 0
Given t a b =
    (sections a ≡ sections b)
    × (section_count a ≡ section_count b)
    × (relocated_of t a ≡ relocated_of t b)
    × (id_of a (sections a) (section_count a) BuildId ≡ id_of b (sections b) (section_count b) BuildId)
    × (id_of a (sections a) (section_count a) Depends ≡ id_of b (sections b) (section_count b) Depends)

-- "the same answer and memory"
pub record SameAnswer (t : Setting) (a b : List ℕ) : Type 0 where
  pub rules : payload_rules t a ≡ payload_rules t b
  pub given : payload_rules t a ≡ Ok tt → Given t a b

-- ordered checks: the later ones count only where the first passes
then-alike : (v w x y : Verdict) → v ≡ w → (v ≡ Ok tt → x ≡ y) → (v then x) ≡ (w then y)
then-alike (Ok _) w x y e next = rw (← e) (next refl)
then-alike (Err r) w x y e next = rw (← e)

-- ---- by the table of sections

abbrev linking_in : Setting → List ℕ → List SectionEntry → ℕ → Linking
linking_in t file ss n = linking_of t.host file (accepted_reading file ss n) t.list

abbrev relocated_in : Setting → List ℕ → List SectionEntry → ℕ → Relocated
relocated_in t file ss n = relocate_all (machine_at t) (linking_in t file ss n) file (image_before file ss n)

module _ (a b : List ℕ) (ss : List SectionEntry) (n : ℕ) (same : SameContents a b ss n) (counts : CountsPass ss n) where
  -- a section of a kind that is counted once, and is read
  found_alike :
      (kind : Kind) → count_of ss n kind ≡ 1 → ((s : SectionEntry) → is_kind s.kind kind ≡ true → is_read ss s ≡ true) →
      contents_of a (section_in ss (index_of ss n kind)).header ≡ contents_of b (section_in ss (index_of ss n kind)).header
  found_alike kind one read =
      let found = index-found ss n kind one in
      same _ found.0 (read _ found.1)

  build_id-alike : id_of a ss n BuildId ≡ id_of b ss n BuildId
  build_id-alike = ap id_in (found_alike BuildId counts.build_id λ s k. note-read ss s (simp (k, or-true)))

  depends-alike : id_of a ss n Depends ≡ id_of b ss n Depends
  depends-alike = ap id_in (found_alike Depends counts.depends λ s k. note-read ss s (simp k))

  -- "link to a type 3"
  strings-alike :
      (h : SectionHeader) → symbol_table_ok ss n h ≡ true →
      contents_of a (section_in ss h.sh_link).header ≡ contents_of b (section_in ss h.sh_link).header
  strings-alike h ok =
      let linked = symbols-linked ss n h ok in
      same h.sh_link linked.0 (strings-read ss (section_in ss h.sh_link) linked.1)

  linking-alike : (t : Setting) → linking_in t a ss n ≡ linking_in t b ss n
  linking-alike t = simp (found_alike Symbols counts.symbols (symbols-read ss), strings-alike _ counts.symbol_table)

  relocated-alike : (t : Setting) → relocated_in t a ss n ≡ relocated_in t b ss n
  relocated-alike t =
      rw (linking-alike t, image-alike a b ss n same n (omega arith))
      (relocate-alike (machine_at t) (linking_in t b ss n) a b same (image_before b ss n))

-- ---- by the files

module _ (a b : List ℕ) (alike : Alike a b) where
  module _ (names : name_table_rules a ≡ Ok tt) where
    -- what is made of the table of sections is the same
    same-table : {A : Type 0} (f : List SectionEntry → ℕ → A) → f (sections a) (section_count a) ≡ f (sections b) (section_count b)
    same-table f = rw (sections-alike a b alike names, count-alike a b alike)

    table-rules-alike : table_rules a (sections a) (section_count a) ≡ table_rules b (sections b) (section_count b)
    unfolding table_rules
    table-rules-alike =
        rw (alike.size, notes-alike a b (sections a) (section_count a) (read_alike a b alike)) (same-table (table_rules b))

  pub read-rules-alike : (m : Machine) → read_rules m a ≡ read_rules m b
  unfolding read_rules
  read-rules-alike m =
      then-alike _ _ _ _ (header-rules-alike a b alike m) λ headed.
      then-alike _ _ _ _ (name_table-rules-alike a b alike) λ names. table-rules-alike names

  -- a file that is read
  module _ (t : Setting) (passes : read_rules (machine_at t) a ≡ Ok tt) where
    stages : ReadPasses a
    stages = read-passes a (machine_at t) passes

    relocated-of-alike : relocated_of t a ≡ relocated_of t b
    unfolding relocated_of
    relocated-of-alike =
        relocated-alike a b (sections a) (section_count a) (read_alike a b alike) stages.counts t
        ∙ same-table stages.names (relocated_in t b)

    build-rules-alike : build_rules t a ≡ build_rules t b
    unfolding build_rules
    build-rules-alike = rw (relocated-of-alike, sections-alike a b alike stages.names, count-alike a b alike)

    same-given : Given t a b
    same-given =
        let same = read_alike a b alike in
        let counts = stages.counts in (
          sections-alike a b alike stages.names,
          count-alike a b alike,
          relocated-of-alike,
          build_id-alike a b (sections a) (section_count a) same counts ∙ same-table stages.names (λ ss n. id_of b ss n BuildId),
          depends-alike a b (sections a) (section_count a) same counts ∙ same-table stages.names (λ ss n. id_of b ss n Depends),
        )

pub alike_same : (t : Setting) (a b : List ℕ) → Alike a b → SameAnswer t a b
alike_same t a b alike =
    record {
      rules = then-alike _ _ _ _ (read-rules-alike a b alike (machine_at t)) λ passes. build-rules-alike a b alike t passes;
      given = λ passes. same-given a b alike t (then-pass (read_rules (machine_at t) a) _ passes).0;
    }

-- files that differ only in bytes of ignored contents, and in none that is consulted, are alike
pub differ-alike : (a b : List ℕ) → DifferInIgnored a b → Alike a b
differ-alike a b differ = record { size = differ.size; same = λ p consulted. by-test p consulted (eqb (get_or a p 0) (get_or b p 0)) refl }
  where
    by-test : (p : ℕ) → Consulted a p → (t : Bool) → eqb (get_or a p 0) (get_or b p 0) ≡ t → get_or a p 0 ≡ get_or b p 0
    by-test p consulted true e = eqb-true _ _ e
    by-test p consulted false e = absurd ((differ.only p (eqb-false _ _ e)).1 consulted)
