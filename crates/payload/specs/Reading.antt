-- What the file alone decides, in document 01's order, and what the later stages need of it.
use Rattle.records.specs.Refusal.{Verdict}
use Rattle.std.specs.Prelude.{ℕ, List, length, Result, Ok, Err}
use Rattle.records.specs.Verdict.{◌then◌, decide}
use Rattle.records.specs.declared.payload.BuildId.{BuildId}
use Rattle.records.specs.declared.refusal.Refusal.{Refusal}
use Rattle.machine.specs.Machine.{Machine}
use Rattle.header.specs.Header.{header_rules}
use Rattle.kinds.specs.declared.Kind.{Kind}
use Rattle.kinds.specs.declared.Kind.TheVariants.{Records, Depends, Symbols}
use Rattle.object.specs.Sections.{section_count, sections, section_in, contents_of, name_table_rules, sections_rules}
use Rattle.object.specs.declared.sections.SectionEntry.{SectionEntry}
use Rattle.notes.specs.Notes.{id_in, note_rules}
use Rattle.payload.specs.Counts.{index_of, count_rules}
use Rattle.payload.specs.RelocationHeaders.{relocation_header_rules}
use Rattle.payload.specs.declared.read.Reading.{Reading}

-- "sections by index .., counts .., type 4 headers, notes by index": what is asked of the n sections ss of the file
unfoldable pub table_rules : List ℕ → List SectionEntry → ℕ → Verdict
table_rules file ss n =
    sections_rules (length file) ss n
    then count_rules ss n
    then relocation_header_rules ss n (index_of ss n Symbols)
    then note_rules file ss n

-- "8, e_shstrndx (place 0)", then the sections
unfoldable pub read_rules : Machine → List ℕ → Verdict
read_rules m file = header_rules m file then name_table_rules file then table_rules file (sections file) (section_count file)

-- the id in the note of a kind
abbrev pub id_of : List ℕ → List SectionEntry → ℕ → Kind → BuildId
id_of file ss n kind = id_in (contents_of file (section_in ss (index_of ss n kind)).header)

-- what is read of a file of n sections ss that keeps the rules
abbrev pub accepted_reading : List ℕ → List SectionEntry → ℕ → Reading
accepted_reading file ss n =
    record {
      count = n;
      sections = ss;
      symbols = index_of ss n Symbols;
      records = index_of ss n Records;
      id_section = index_of ss n Kind.BuildId;
      depends_section = index_of ss n Depends;
      id = id_of file ss n Kind.BuildId;
      dependency = id_of file ss n Depends;
    }

-- the answer for a file
unfoldable pub reading_of : Machine → List ℕ → Result Reading Refusal
reading_of m file = decide Err (Ok (accepted_reading file (sections file) (section_count file))) (read_rules m file)
