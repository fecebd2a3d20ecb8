-- What a file whose rules all pass tells: each stage passes, each note has its id, and the sections that later stages look up are there.
use Rattle.std.proofs.Common.{Ok}
use Prim.Native.Nat.{ℕ, ◌*◌, ◌≤◌, ◌<◌}
use mathlib.Core.Path.{◌≡◌, refl, ap, ◌∙◌}
use mathlib.Core.Bool.{Bool, true, false, ◌||◌}
use mathlib.Core.List.{List}
use lib.ListN.{length}
use Rattle.records.specs.Limits.{records_max, record_size}
use Rattle.records.proofs.Checks.{then-pass}
use Rattle.elf.specs.declared.SectionHeader.{SectionHeader}
use Rattle.machine.specs.Machine.{Machine}
use Rattle.header.specs.Header.{Headed, header_rules}
use Rattle.header.proofs.HeaderLaws.{headed}
use Rattle.kinds.specs.Kinds.{is_kind, is_note_kind}
use Rattle.kinds.specs.declared.Kind.{Kind}
use Rattle.kinds.specs.declared.Kind.TheVariants.{Records, Depends, BuildId, Symbols, Relocations}
use Rattle.kinds.proofs.Same.{one-kind}
use Rattle.object.specs.Sections.{section_count, sections, section_in, contents_of, name_table_rules, sections_rules}
use Rattle.object.specs.declared.sections.SectionEntry.{SectionEntry}
use Rattle.notes.specs.Notes.{note_ok, note_rules}
use Rattle.notes.proofs.NoteLaws.{note-passes}
use Rattle.payload.specs.Counts.{count_of, index_of, count_rules}
use Rattle.payload.specs.Reading.{table_rules, read_rules}
use Rattle.payload.specs.RelocationHeaders.{is_target, relocation_header_rules}
use Rattle.payload.proofs.CountLaws.{CountsPass, counts-pass, index-found, symbols-linked, records-sized}
use Rattle.payload.proofs.RelocationHeaderLaws.{target-passes}

-- ---- every stage passes

module _ (file : List ℕ) (ss : List SectionEntry) (n : ℕ) where
  pub record TablePasses : Type 0 where
    pub of-sections : sections_rules (length file) ss n ≡ Ok tt
    pub of-counts : count_rules ss n ≡ Ok tt
    pub of-relocations : relocation_header_rules ss n (index_of ss n Symbols) ≡ Ok tt
    pub of-notes : note_rules file ss n ≡ Ok tt

  pub table-passes : table_rules file ss n ≡ Ok tt → TablePasses
  unfolding table_rules
  table-passes h =
      let one = then-pass _ _ h in
      let two = then-pass _ _ one.1 in
      let three = then-pass _ _ two.1 in
      record { of-sections = one.0; of-counts = two.0; of-relocations = three.0; of-notes = three.1 }

-- ---- the note of a kind

either-holds : {A : Type 0} (a b : Bool) → (a ≡ true → A) → (b ≡ true → A) → (a || b) ≡ true → A
either-holds true b first second h = first refl
either-holds false b first second h = second h

-- both notes are counted once
note-counted : (ss : List SectionEntry) (n : ℕ) → CountsPass ss n → (kind : Kind) → is_note_kind kind ≡ true → count_of ss n kind ≡ 1
note-counted ss n counts kind =
    either-holds (is_kind kind Depends) (is_kind kind BuildId)
    (λ same. ap (count_of ss n) (one-kind kind Depends same) ∙ counts.depends)
    (λ same. ap (count_of ss n) (one-kind kind BuildId same) ∙ counts.build_id)

-- so the section of that kind is right
pub note-found :
    (file : List ℕ) (ss : List SectionEntry) (n : ℕ) (kind : Kind) → table_rules file ss n ≡ Ok tt → is_note_kind kind ≡ true →
    note_ok (contents_of file (section_in ss (index_of ss n kind)).header) ≡ true
note-found file ss n kind passes note =
    let table = table-passes file ss n passes in
    let found = index-found ss n kind (note-counted ss n (counts-pass ss n table.of-counts) kind note) in
    note-passes file ss n table.of-notes _ found.0 (ap is_note_kind (one-kind _ kind found.1) ∙ note)

-- ---- a file that passes

module _ (file : List ℕ) where
  abbrev ss : List SectionEntry
  ss = sections file

  abbrev n : ℕ
  n = section_count file

  abbrev symbols-header : SectionHeader
  symbols-header = (section_in ss (index_of ss n Symbols)).header

  abbrev records-header : SectionHeader
  records-header = (section_in ss (index_of ss n Records)).header

  -- every stage passes; the symbol table, its strings, the function records and the targets of relocations are sections of the file
  pub record ReadPasses : Type 0 where
    pub head : Headed file
    pub names : name_table_rules file ≡ Ok tt
    pub table : TablePasses file ss n
    pub counts : CountsPass ss n
    pub symbols-below : index_of ss n Symbols < n
    pub strings-below : symbols-header.sh_link < n
    pub records-below : index_of ss n Records < n
    pub records-least : record_size ≤ records-header.sh_size
    pub records-most : records-header.sh_size ≤ record_size * records_max
    pub targets :
        (i : ℕ) → i < n → is_kind (section_in ss i).kind Relocations ≡ true →
        ((section_in ss i).header.sh_info < n) × (is_target (section_in ss (section_in ss i).header.sh_info) ≡ true)

  pub read-passes : (m : Machine) → read_rules m file ≡ Ok tt → ReadPasses
  unfolding read_rules
  read-passes m h =
      let one = then-pass (header_rules m file) _ h in
      let two = then-pass (name_table_rules file) _ one.1 in
      let table = table-passes file ss n two.1 in
      let counts = counts-pass ss n table.of-counts in
      let size = records-sized records-header counts.records_size in
      record {
        head = headed m file one.0;
        names = two.0;
        table = table;
        counts = counts;
        symbols-below = (index-found ss n Symbols counts.symbols).0;
        strings-below = (symbols-linked ss n symbols-header counts.symbol_table).0;
        records-below = (index-found ss n Records counts.records).0;
        records-least = size.0;
        records-most = size.1;
        targets = target-passes ss n _ table.of-relocations;
      }
