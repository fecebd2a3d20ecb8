-- A section as it is read, what a name table that passes tells, and the table of sections by its index.
use Rattle.std.proofs.Common.{Ok}
use Prim.Native.Nat.{ℕ, ◌+◌, ◌*◌, ◌≤◌, ◌<◌}
use mathlib.Core.Path.{◌≡◌, refl, sym, ap}
use mathlib.Core.Bool.{Bool, true, false, not, ◌&&◌}
use mathlib.Core.List.{List}
use native.Mathlib.Omega.{arith}
use borrow.Author.Tests.{ltb-true, eqb-true}
use lib.Dec.{ltb, eqb}
use lib.ListN.{length}
use Rattle.words.proofs.Scan.{get_or-filled}
use Rattle.words.proofs.Tests.{both}
use Rattle.records.specs.Limits.{sections_max}
use Rattle.records.specs.declared.refusal.Place.TheVariants.{Nowhere}
use Rattle.records.proofs.Checks.{must-pass}
use Rattle.elf.specs.Layout.{section_header_size, file_header_of}
use Rattle.elf.specs.Name.{is_named}
use Rattle.elf.specs.declared.FileHeader.{FileHeader}
use Rattle.elf.specs.declared.SectionHeader.{SectionHeader}
use Rattle.header.specs.Header.{Headed}
use Rattle.kinds.specs.Kinds.{has_type, kind_of, is_kind}
use Rattle.kinds.specs.declared.Kind.TheVariants.{Null, Unnamed}
use Rattle.kinds.proofs.KindLaws.{kind-unnamed, kind-null}
use Rattle.object.specs.Sections.{
  section_count,
  header_at,
  contents_of,
  name_table_rules,
  name_section,
  no_entry,
  consulted_fields,
  section_name,
  section_read,
  sections,
  section_in,
}

-- ---- the section table

-- a header as it was read
module _ (file : List ℕ) {h : FileHeader} (e : h ≡ file_header_of file) where
  pub count-read : h.e_shnum ≡ section_count file
  count-read = ap (λ (k : FileHeader). k.e_shnum) e

  pub names-read : h.e_shstrndx ≡ name_section file
  names-read = ap (λ (k : FileHeader). k.e_shstrndx) e

  pub header-inside : (i : ℕ) → Headed file → i < section_count file → h.e_shoff + section_header_size * i + section_header_size ≤ length file
  header-inside i headed g = rw e (omega arith)

-- ---- a section as it is read

module _ (file : List ℕ) (i : ℕ) where
  -- of a section of type 0 nothing is kept
  pub read-null : has_type 0 (header_at file i) ≡ true → section_read file i ≡ no_entry
  unfolding section_read
  read-null null = rw null

  -- of another its consulted fields, and its kind by its name
  module _ (some : has_type 0 (header_at file i) ≡ false) where
    pub read-header : (section_read file i).header ≡ consulted_fields (header_at file i)
    unfolding section_read
    read-header = rw some

    pub read-kind : (section_read file i).kind ≡ kind_of (header_at file i) (section_name file i)
    unfolding section_read
    read-kind = rw some

    -- it has no name exactly where its kind says so
    pub unnamed_told : is_kind (section_read file i).kind Unnamed ≡ not (is_named (section_name file i))
    unnamed_told = rw read-kind (kind-unnamed (header_at file i) (section_name file i))

  -- its type is the header's
  pub read-type : (section_read file i).header.sh_type ≡ (header_at file i).sh_type
  unfolding no_entry consulted_fields
  read-type = by-test (has_type 0 (header_at file i)) refl
    where
      by-test : (t : Bool) → has_type 0 (header_at file i) ≡ t → (section_read file i).header.sh_type ≡ (header_at file i).sh_type
      by-test true e = rw (read-null e) (sym (eqb-true (header_at file i).sh_type 0 e))
      by-test false e = rw (read-header e)

  pub read-typed : (t : ℕ) → has_type t (section_read file i).header ≡ has_type t (header_at file i)
  read-typed t = ap (λ (n : ℕ). eqb n t) read-type

  -- its kind says whether it is 0
  pub null-told : is_kind (section_read file i).kind Null ≡ has_type 0 (header_at file i)
  unfolding no_entry
  null-told = by-test (has_type 0 (header_at file i)) refl
    where
      by-test : (t : Bool) → has_type 0 (header_at file i) ≡ t → is_kind (section_read file i).kind Null ≡ t
      by-test true e = rw (read-null e)
      by-test false e = rw (read-kind e) (kind-null (header_at file i) (section_name file i))

-- the contents of a section that has some are those that its whole header names
pub consulted-contents : (file : List ℕ) (h : SectionHeader) → has_type 8 h ≡ false → contents_of file (consulted_fields h) ≡ contents_of file h
unfolding contents_of consulted_fields
consulted-contents file h full = rw full

-- ---- the name table

-- what one that passes tells
module _ (file : List ℕ) (e : name_table_rules file ≡ Ok tt) where
  in-table-typed : (ltb (name_section file) (section_count file) && has_type 3 (header_at file (name_section file))) ≡ true
  unfolding name_table_rules
  in-table-typed = (both _ _ (must-pass _ 22 Nowhere e)).0

  pub names-inside : name_section file < section_count file
  names-inside = ltb-true _ _ (both _ _ in-table-typed).0

  pub names-typed : has_type 3 (header_at file (name_section file)) ≡ true
  names-typed = (both (ltb (name_section file) (section_count file)) _ in-table-typed).1

-- ---- the sections by index

pub section-in : (file : List ℕ) (i : ℕ) → i < section_count file → section_in (sections file) i ≡ section_read file i
unfolding sections
section-in file i h = get_or-filled (section_read file) no_entry sections_max (section_count file) i no_entry h
