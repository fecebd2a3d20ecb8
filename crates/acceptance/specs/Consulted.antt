-- Document 01: "Payloads that differ only in bytes of ignored contents, within no other consulted range, get the same answer and memory."
use Rattle.std.specs.Prelude.{ℕ, ◌+◌, ◌*◌, ◌≤◌, ◌<◌, ◌≡◌, Bool, true, not, ◌&&◌, ◌||◌, List, leb, ltb, length, get_or}
use Rattle.elf.specs.Layout.{section_header_size, file_header_of}
use Rattle.elf.specs.declared.SectionHeader.{SectionHeader}
use Rattle.kinds.specs.Kinds.{has_type, is_kind, is_note_kind}
use Rattle.kinds.specs.declared.Kind.TheVariants.{Symbols, Relocations, Ignored}
use Rattle.object.specs.Sections.{section_count, header_at, sections, section_in}
use Rattle.object.specs.declared.sections.SectionEntry.{SectionEntry}
use Rattle.placement.specs.Placement.{has_contents}
use Rattle.relocation.specs.Relocating.{is_relocating}
use Rattle.acceptance.specs.Rules.{section}

-- n bytes from at on
abbrev pub within : ℕ → ℕ → ℕ → Bool
within at n p = leb at p && ltb p (at + n)

-- "Other header fields aren't consulted": magic, class, data and version; e_type, e_machine and e_version; e_shoff; e_shentsize, e_shnum and e_shstrndx are
abbrev pub in_header : ℕ → Bool
in_header p = within 0 7 p || within 16 8 p || within 40 8 p || within 58 6 p

-- what the rules look at of a section header, by the byte q in it: the type; of any type but 0 the name, flags, size and alignment, the offset
-- where the type is not 8, link and entry size of types 2 and 4, info of type 4
unfoldable pub in_section_header : SectionHeader → ℕ → Bool
in_section_header h q =
    within 4 4 q
    || (not (has_type 0 h)
    && (within 0 4 q
    || within 8 8 q
    || (not (has_type 8 h) && within 24 8 q)
    || within 32 8 q
    || ((has_type 2 h || has_type 4 h) && within 40 4 q)
    || (has_type 4 h && within 44 4 q)
    || within 48 8 q
    || ((has_type 2 h || has_type 4 h) && within 56 8 q)))

-- the contents of a section are read: those of a placed section, a note, the symbol table, a string table, and relocations that are made
abbrev pub is_read : List SectionEntry → SectionEntry → Bool
is_read ss s = has_contents s || is_note_kind s.kind || is_kind s.kind Symbols || has_type 3 s.header || is_relocating ss s

-- byte p of the file is consulted
pub data Consulted (file : List ℕ) (p : ℕ) : Type 0 where
  by_header : in_header p ≡ true → Consulted file p
  by_section_table :
      (i q : ℕ) → i < section_count file → p ≡ (file_header_of file).e_shoff + section_header_size * i + q →
      in_section_header (header_at file i) q ≡ true → Consulted file p
  by_contents :
      (i : ℕ) → i < section_count file → is_read (sections file) (section file i) ≡ true →
      (section file i).header.sh_offset ≤ p → p < (section file i).header.sh_offset + (section file i).header.sh_size →
      Consulted file p

-- two files that differ in no byte that is consulted
pub record Alike (a b : List ℕ) : Type 0 where
  pub size : length a ≡ length b
  pub same : (p : ℕ) → Consulted a p → get_or a p 0 ≡ get_or b p 0

-- "Ignored: without 0x2, type 1, ..; and every type 0"; "in the second case the type 4 contents are ignored too"
abbrev pub is_ignored : List SectionEntry → SectionEntry → Bool
is_ignored ss s =
    is_kind s.kind Ignored
    || has_type 0 s.header
    || (is_kind s.kind Relocations && is_kind (section_in ss s.header.sh_info).kind Ignored)

-- byte p lies in the contents of section i, which are ignored
pub record IgnoredAt (file : List ℕ) (i p : ℕ) : Type 0 where
  pub below : i < section_count file
  pub ignored : is_ignored (sections file) (section file i) ≡ true
  pub low : (header_at file i).sh_offset ≤ p
  pub high : p < (header_at file i).sh_offset + (header_at file i).sh_size

-- "Payloads that differ only in bytes of ignored contents, within no other consulted range"
pub record DifferInIgnored (a b : List ℕ) : Type 0 where
  pub size : length a ≡ length b
  pub only : (p : ℕ) → (get_or a p 0 ≡ get_or b p 0 → ⊥) → ((i : ℕ) × IgnoredAt a i p) × (Consulted a p → ⊥)
