-- Document 01, "Reading a payload": e_shstrndx, and the sections by index.
use Rattle.records.specs.Refusal.{Verdict}
use Rattle.std.specs.Prelude.{ℕ, ◌+◌, ◌*◌, ◌%◌, Bool, cond, not, ◌&&◌, ◌||◌, List, leb, ltb, eqb, length, get_or, Ok}
use Rattle.std.specs.Int.Bits.{bit_and}
use Rattle.words.specs.Scan.{scan, filled}
use Rattle.words.specs.Splice.{part}
use Rattle.records.specs.Limits.{sections_max}
use Rattle.records.specs.Verdict.{must, ◌then◌}
use Rattle.records.specs.declared.refusal.Place.TheVariants.{Nowhere, Section}
use Rattle.elf.specs.Layout.{section_header_size, file_header_of, section_header_of}
use Rattle.elf.specs.Name.{Name, name_in}
use Rattle.elf.specs.declared.SectionHeader.{SectionHeader}
use Rattle.kinds.specs.Kinds.{has_type, kind_of, is_kind}
use Rattle.kinds.specs.declared.Kind.TheVariants.{Null, Unnamed, Unknown}
use Rattle.object.specs.declared.sections.SectionEntry.{SectionEntry}

-- "1 to 64 sections"
abbrev pub section_count : List ℕ → ℕ
section_count file = (file_header_of file).e_shnum

-- the header of section i
unfoldable pub header_at : List ℕ → ℕ → SectionHeader
header_at file i = section_header_of file ((file_header_of file).e_shoff + section_header_size * i)

-- "Contents lie inside the file (offset plus size at most the file's)"
abbrev pub contents_inside : SectionHeader → ℕ → Bool
contents_inside h size = leb (h.sh_offset + h.sh_size) size

unfoldable pub contents_of : List ℕ → SectionHeader → List ℕ
contents_of file h = part file h.sh_offset h.sh_size

-- "e_shstrndx, which names a type 3 section with contents inside the file"
abbrev pub name_section : List ℕ → ℕ
name_section file = (file_header_of file).e_shstrndx

abbrev pub name_table_ok : List ℕ → Bool
name_table_ok file =
    ltb (name_section file) (section_count file)
    && has_type 3 (header_at file (name_section file))
    && contents_inside (header_at file (name_section file)) (length file)

unfoldable pub name_table_rules : List ℕ → Verdict
name_table_rules file = must (name_table_ok file) 22 Nowhere

unfoldable pub name_table : List ℕ → List ℕ
name_table file = contents_of file (header_at file (name_section file))

-- the table's entry of no section, and of a section of type 0
unfoldable pub no_entry : SectionEntry
no_entry = record {
  header = record {
    sh_name = 0;
    sh_type = 0;
    sh_flags = 0;
    sh_offset = 0;
    sh_size = 0;
    sh_link = 0;
    sh_info = 0;
    sh_addralign = 0;
    sh_entsize = 0;
  };
  kind = Null;
}

-- the fields that a rule looks at, of a header of any type but 0: sh_link and sh_entsize of types 2 and 4, sh_info of type 4,
-- sh_offset of any type but 8; sh_addr is none of them
unfoldable pub consulted_fields : SectionHeader → SectionHeader
consulted_fields h = record {
  sh_name = h.sh_name;
  sh_type = h.sh_type;
  sh_flags = h.sh_flags;
  sh_offset = cond (has_type 8 h) 0 h.sh_offset;
  sh_size = h.sh_size;
  sh_link = cond (has_type 2 h || has_type 4 h) h.sh_link 0;
  sh_info = cond (has_type 4 h) h.sh_info 0;
  sh_addralign = h.sh_addralign;
  sh_entsize = cond (has_type 2 h || has_type 4 h) h.sh_entsize 0;
}

-- the name of section i
abbrev pub section_name : List ℕ → ℕ → Name
section_name file i = name_in (name_table file) (header_at file i).sh_name

-- a section as it is read, its header and what kind it is: "of a type 0 section only the type is consulted"
unfoldable pub section_read : List ℕ → ℕ → SectionEntry
section_read file i =
    cond (has_type 0 (header_at file i)) no_entry
    (record { header = consulted_fields (header_at file i); kind = kind_of (header_at file i) (section_name file i) })

-- the sections of the file in a table of 64
unfoldable pub sections : List ℕ → List SectionEntry
sections file = filled (section_read file) no_entry sections_max (section_count file)

abbrev pub section_in : List SectionEntry → ℕ → SectionEntry
section_in ss i = get_or ss i no_entry

-- ---- the checks of one section

-- "Types 0, 1, 2, 3, 4, 7, 8 are known."
unfoldable pub known_type : SectionHeader → Bool
known_type h =
    leb h.sh_type 4 || has_type 7 h || has_type 8 h

-- "Flag bits 0x1, 0x2, 0x4, 0x10, 0x20, 0x40 are known."
unfoldable pub known_flags : SectionHeader → Bool
known_flags h = eqb (bit_and h.sh_flags 0x77) h.sh_flags

-- "Alignment is 0, 1 or a power of two up to 4,096": the numbers that divide 4,096 are the powers of two up to it
unfoldable pub alignment_ok : SectionHeader → Bool
alignment_ok h = eqb h.sh_addralign 0 || eqb (4096 % h.sh_addralign) 0

-- "not for types 0 and 8"
abbrev pub contents_ok : SectionHeader → ℕ → Bool
contents_ok h size = has_type 8 h || contents_inside h size

-- "sections by index (name, type, flags, kind, alignment, contents)"; "of a type 0 section only the type is consulted"
unfoldable pub section_rules : ℕ → ℕ → SectionEntry → Verdict
section_rules size i s =
    cond (has_type 0 s.header) (Ok tt)
    (must (not (is_kind s.kind Unnamed)) 22 (Section i)
    then must (known_type s.header) 95 (Section i)
    then must (known_flags s.header) 95 (Section i)
    then must (not (is_kind s.kind Unknown)) 95 (Section i)
    then must (alignment_ok s.header) 22 (Section i)
    then must (contents_ok s.header size) 22 (Section i))

abbrev pub one_section : ℕ → List SectionEntry → ℕ → Verdict → Verdict
one_section size ss i rest = section_rules size i (section_in ss i) then rest

-- "section 0 is type 0 (else 22, also where its type is unknown)", then each section
unfoldable pub sections_rules : ℕ → List SectionEntry → ℕ → Verdict
sections_rules size ss n =
    must (has_type 0 (section_in ss 0).header) 22 (Section 0)
    then scan (one_section size ss) (Ok tt) 0 n
