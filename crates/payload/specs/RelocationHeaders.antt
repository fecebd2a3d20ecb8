-- Document 01: "Type 4 sections: link to the symbol table, entry size 24, size a multiple of it. The target (sh_info) is .."
use Rattle.records.specs.Refusal.{Verdict}
use Rattle.std.specs.Prelude.{ℕ, ◌%◌, Bool, cond, not, ◌&&◌, ◌||◌, List, ltb, eqb, Ok}
use Rattle.words.specs.Scan.{scan}
use Rattle.records.specs.Verdict.{must, ◌then◌}
use Rattle.records.specs.declared.refusal.Place.TheVariants.{Section}
use Rattle.elf.specs.Layout.{relocation_size}
use Rattle.kinds.specs.Kinds.{has_type, is_kind}
use Rattle.kinds.specs.declared.Kind.TheVariants.{Placed, Records, Relocations, Ignored}
use Rattle.object.specs.Sections.{section_in}
use Rattle.object.specs.declared.sections.SectionEntry.{SectionEntry}

-- "either a placed section, neither type 8 nor one of the two notes, or an ignored one of type 1"
unfoldable pub is_target : SectionEntry → Bool
is_target s =
    (is_kind s.kind Placed && not (has_type 8 s.header))
    || is_kind s.kind Records
    || is_kind s.kind Ignored

unfoldable pub relocation_header_ok : List SectionEntry → ℕ → ℕ → SectionEntry → Bool
relocation_header_ok ss n table s =
    eqb s.header.sh_link table
    && eqb s.header.sh_entsize relocation_size
    && eqb (s.header.sh_size % relocation_size) 0
    && ltb s.header.sh_info n
    && is_target (section_in ss s.header.sh_info)

abbrev pub one_relocation_header : List SectionEntry → ℕ → ℕ → ℕ → Verdict → Verdict
one_relocation_header ss n table i rest =
    cond (is_kind (section_in ss i).kind Relocations) (must (relocation_header_ok ss n table (section_in ss i)) 22 (Section i)) (Ok tt)
    then rest

-- by index; table is the symbol table's
unfoldable pub relocation_header_rules : List SectionEntry → ℕ → ℕ → Verdict
relocation_header_rules ss n table = scan (one_relocation_header ss n table) (Ok tt) 0 n
