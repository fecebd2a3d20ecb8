-- Document 01, "Reading a payload": the file's size and header, number 8.
use Rattle.records.specs.Refusal.{Verdict}
use Rattle.std.specs.Prelude.{ℕ, ◌+◌, ◌*◌, ◌≤◌, Bool, ◌&&◌, List, leb, eqb, length}
use Rattle.records.specs.Limits.{file_min, file_max, sections_max}
use Rattle.records.specs.Verdict.{must}
use Rattle.records.specs.declared.refusal.Place.TheVariants.{Nowhere}
use Rattle.machine.specs.Machine.{Machine}
use Rattle.elf.specs.Layout.{section_header_size, file_header_of}
use Rattle.elf.specs.declared.FileHeader.{FileHeader}

-- "file 64 to 32,768 bytes" (W1)
unfoldable pub size_ok : ℕ → Bool
size_ok size = leb file_min size && leb size file_max

-- "magic, class 2, data 1, ident version 1, e_type 1, e_machine 62, e_version 1, e_shentsize 64, 1 to 64 sections"; the machine's number is its own
unfoldable pub fields_ok : Machine → FileHeader → Bool
fields_ok m h =
    eqb h.magic 0x464c457f
    && eqb h.ei_class 2
    && eqb h.ei_data 1
    && eqb h.ei_version 1
    && eqb h.e_type 1
    && eqb h.e_machine m.number
    && eqb h.e_version 1
    && eqb h.e_shentsize section_header_size
    && leb 1 h.e_shnum
    && leb h.e_shnum sections_max

-- "section table inside the file"
abbrev pub table_inside : FileHeader → ℕ → Bool
table_inside h size = leb (h.e_shoff + section_header_size * h.e_shnum) size

-- "Other header fields aren't consulted, except e_shoff, and e_shstrndx"
unfoldable pub header_rules : Machine → List ℕ → Verdict
header_rules m file =
    must (size_ok (length file) && fields_ok m (file_header_of file) && table_inside (file_header_of file) (length file)) 8 Nowhere

-- what a header that passes tells: the file has its size, and its section table is all there
pub record Headed (file : List ℕ) : Type 0 where
  pub whole : file_min ≤ length file
  pub short : length file ≤ file_max
  pub few : (file_header_of file).e_shnum ≤ sections_max
  pub inside : (file_header_of file).e_shoff + section_header_size * (file_header_of file).e_shnum ≤ length file
