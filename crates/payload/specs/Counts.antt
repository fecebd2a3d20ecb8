-- Document 01: "There is exactly one type 2 section .. and exactly one of each named .livepatch.funcs, depends and build-id."
use Rattle.records.specs.Refusal.{Verdict}
use Rattle.std.specs.Prelude.{ℕ, suc, ◌*◌, ◌%◌, Bool, cond, ◌&&◌, List, leb, ltb, eqb}
use Rattle.words.specs.Scan.{scan}
use Rattle.records.specs.Limits.{records_max, record_size}
use Rattle.records.specs.Verdict.{must, ◌then◌}
use Rattle.records.specs.declared.refusal.Place.TheVariants.{Nowhere, Section}
use Rattle.elf.specs.Layout.{symbol_size}
use Rattle.elf.specs.declared.SectionHeader.{SectionHeader}
use Rattle.kinds.specs.Kinds.{has_type, is_kind}
use Rattle.kinds.specs.declared.Kind.{Kind}
use Rattle.kinds.specs.declared.Kind.TheVariants.{Records, Depends, BuildId, Symbols}
use Rattle.object.specs.Sections.{section_in}
use Rattle.object.specs.declared.sections.SectionEntry.{SectionEntry}

-- how many of the first n sections are of a kind
abbrev pub one_counted : List SectionEntry → Kind → ℕ → ℕ → ℕ
one_counted ss kind i rest = cond (is_kind (section_in ss i).kind kind) (suc rest) rest

unfoldable pub count_of : List SectionEntry → ℕ → Kind → ℕ
count_of ss n kind = scan (one_counted ss kind) 0 0 n

-- the first of them, or 0
abbrev pub one_index : List SectionEntry → Kind → ℕ → ℕ → ℕ
one_index ss kind i rest = cond (is_kind (section_in ss i).kind kind) i rest

unfoldable pub index_of : List SectionEntry → ℕ → Kind → ℕ
index_of ss n kind = scan (one_index ss kind) 0 0 n

-- "entry size 24, size a multiple of it, link to a type 3"
unfoldable pub symbol_table_ok : List SectionEntry → ℕ → SectionHeader → Bool
symbol_table_ok ss n h =
    eqb h.sh_entsize symbol_size
    && eqb (h.sh_size % symbol_size) 0
    && ltb h.sh_link n
    && has_type 3 (section_in ss h.sh_link).header

-- "64 bytes, 1 to 32 of them" (W1)
unfoldable pub records_size_ok : SectionHeader → Bool
records_size_ok h =
    leb record_size h.sh_size
    && leb h.sh_size (record_size * records_max)
    && eqb (h.sh_size % record_size) 0

-- "counts (type 2, its header, the three names as listed, the records' section size; place 0 for a wrong count, else the section)"
unfoldable pub count_rules : List SectionEntry → ℕ → Verdict
count_rules ss n =
    must (eqb (count_of ss n Symbols) 1) 22 Nowhere
    then must (symbol_table_ok ss n (section_in ss (index_of ss n Symbols)).header) 22 (Section (index_of ss n Symbols))
    then must (eqb (count_of ss n Records) 1) 22 Nowhere
    then must (eqb (count_of ss n Depends) 1) 22 Nowhere
    then must (eqb (count_of ss n BuildId) 1) 22 Nowhere
    then must (records_size_ok (section_in ss (index_of ss n Records)).header) 22 (Section (index_of ss n Records))
