-- Two files that are alike: their headers, their name tables and their sections are the same.
use Rattle.std.proofs.Common.{Ok}
use Prim.Native.Nat.{ℕ, ◌+◌, ◌-◌, ◌*◌, ◌≤◌, ◌<◌}
use mathlib.Core.Path.{◌≡◌, refl, sym, ap, ◌∙◌}
use mathlib.Core.Bool.{Bool, true, false, ◌||◌, or-true, and-false}
use mathlib.Core.List.{List}
use native.Mathlib.Nat.{add-zero}
use native.Mathlib.Omega.{arith}
use borrow.Author.Tests.{le-leb, lt-ltb, ltb-true, eqb-true}
use lib.Dec.{ltb}
use Rattle.words.specs.Number.{le_at}
use Rattle.words.specs.Scan.{filled}
use Rattle.records.specs.Limits.{sections_max}
use Rattle.elf.specs.Layout.{section_header_size, file_header_of, section_header_of}
use Rattle.elf.specs.Name.{Name, named, unnamed, name_in}
use Rattle.elf.specs.declared.FileHeader.{FileHeader}
use Rattle.elf.specs.declared.SectionHeader.{SectionHeader}
use Rattle.machine.specs.Machine.{Machine}
use Rattle.header.specs.Header.{header_rules}
use Rattle.kinds.specs.Kinds.{has_type, kind_named, kind_of}
use Rattle.object.specs.Sections.{
  section_count,
  header_at,
  contents_of,
  name_section,
  name_table_rules,
  name_table,
  no_entry,
  consulted_fields,
  section_name,
  section_read,
  sections,
}
use Rattle.object.specs.declared.sections.SectionEntry.{SectionEntry}
use Rattle.object.proofs.SectionLaws.{read-null, read-header, read-typed, consulted-contents, section-in, names-inside, names-typed}
use Rattle.acceptance.specs.Consulted.{within, in_header, in_section_header, is_read, by_header, by_section_table, by_contents, Alike}
use Rattle.acceptance.specs.Rules.{section}
use Rattle.acceptance.proofs.Parts.{number-alike, contents-alike, cond-alike, filled-alike}
use Rattle.acceptance.proofs.ReadSections.{strings-read}

-- a byte in the range is within it
in-range : (q n x : ℕ) → q ≤ x → x < q + n → within q n x ≡ true
in-range q n x low high = simp (le-leb q x low, lt-ltb x (q + n) high)

-- ---- a section as it is read

-- the kind of a section asks for no field but those that are kept
kind-kept : (h : SectionHeader) (name : Name) → kind_of (consulted_fields h) name ≡ kind_of h name
unfolding consulted_fields kind_named
kind-kept h (named name) = refl
kind-kept h unnamed = refl

-- a section by the name table and its consulted fields
abbrev entry_by : List ℕ → SectionHeader → SectionEntry
entry_by names h = record { header = h; kind = kind_of h (name_in names h.sh_name) }

read_by :
    (file : List ℕ) (i : ℕ) → has_type 0 (header_at file i) ≡ false →
    section_read file i ≡ entry_by (name_table file) (consulted_fields (header_at file i))
unfolding section_read consulted_fields
read_by file i some = rw (some, kind-kept (header_at file i) (section_name file i))

-- a string table as it is read
module _ (file : List ℕ) (i : ℕ) (below : i < section_count file) (typed : has_type 3 (header_at file i) ≡ true) where
  strings-typed : has_type 3 (section file i).header ≡ true
  strings-typed = rw (section-in file i below, read-typed file i 3) typed

  -- its contents are those that its whole header names
  strings-contents : (other : List ℕ) → contents_of other (section file i).header ≡ contents_of other (header_at file i)
  strings-contents other =
      let three = eqb-true (header_at file i).sh_type 3 typed in
      rw (section-in file i below, read-header file i (rw three)) (consulted-contents other (header_at file i) (rw three))

module _ (a b : List ℕ) (alike : Alike a b) where
  -- ---- the header

  -- a field in one of the four ranges of it that are consulted
  field : (n at : ℕ) → ((p : ℕ) → at ≤ p → p < at + n → in_header p ≡ true) → le_at n a at ≡ le_at n b at
  field n at inside = number-alike a b alike.size n at λ p low high. alike.same p (by_header (inside p low high))

  ident : (n at : ℕ) → at + n ≤ 7 → le_at n a at ≡ le_at n b at
  ident n at h = field n at λ p low high. simp (le-leb 0 p (omega arith), lt-ltb p 7 (omega arith))

  kind : (n at : ℕ) → 16 ≤ at → at + n ≤ 24 → le_at n a at ≡ le_at n b at
  kind n at g h = field n at λ p low high. simp (le-leb 16 p (omega arith), lt-ltb p 24 (omega arith), or-true)

  table : (n at : ℕ) → 40 ≤ at → at + n ≤ 48 → le_at n a at ≡ le_at n b at
  table n at g h = field n at λ p low high. simp (le-leb 40 p (omega arith), lt-ltb p 48 (omega arith), or-true)

  counts : (n at : ℕ) → 58 ≤ at → at + n ≤ 64 → le_at n a at ≡ le_at n b at
  counts n at g h = field n at λ p low high. simp (le-leb 58 p (omega arith), lt-ltb p 64 (omega arith), or-true)

  pub header-alike : file_header_of a ≡ file_header_of b
  unfolding file_header_of
  header-alike =
      simp (
        ident 4 0 (omega arith),
        ident 1 4 (omega arith),
        ident 1 5 (omega arith),
        ident 1 6 (omega arith),
        kind 2 16 (omega arith) (omega arith),
        kind 2 18 (omega arith) (omega arith),
        kind 4 20 (omega arith) (omega arith),
        table 8 40 (omega arith) (omega arith),
        counts 2 58 (omega arith) (omega arith),
        counts 2 60 (omega arith) (omega arith),
        counts 2 62 (omega arith) (omega arith),
      )

  pub count-alike : section_count a ≡ section_count b
  count-alike = ap (λ (h : FileHeader). h.e_shnum) header-alike

  pub header-rules-alike : (m : Machine) → header_rules m a ≡ header_rules m b
  unfolding header_rules
  header-rules-alike m = rw (header-alike, alike.size)

  -- ---- the section table

  table-at-alike : (file_header_of a).e_shoff ≡ (file_header_of b).e_shoff
  table-at-alike = ap (λ (h : FileHeader). h.e_shoff) header-alike

  names-alike : name_section a ≡ name_section b
  names-alike = ap (λ (h : FileHeader). h.e_shstrndx) header-alike

  module _ (i : ℕ) (below : i < section_count a) where
    -- where the header of section i begins
    abbrev start : ℕ
    start = (file_header_of a).e_shoff + section_header_size * i

    -- a field of n bytes at byte q of it, which are consulted
    at-alike :
        (n q : ℕ) → ((x : ℕ) → q ≤ x → x < q + n → in_section_header (header_at a i) x ≡ true) →
        le_at n a (start + q) ≡ le_at n b (start + q)
    at-alike n q inside = number-alike a b alike.size n (start + q) λ p low high.
        alike.same p (by_section_table i (p - start) below (omega arith) (inside (p - start) (omega arith) (omega arith)))

    -- the type
    type-at-alike : le_at 4 a (start + 4) ≡ le_at 4 b (start + 4)
    unfolding in_section_header
    type-at-alike = at-alike 4 4 λ x low high. simp (in-range 4 4 x low high)

    type-alike : (header_at a i).sh_type ≡ (header_at b i).sh_type
    unfolding header_at section_header_of
    type-alike = rw (← table-at-alike) type-at-alike

    -- of any type but 0 the fields that a rule looks at
    fields-alike : has_type 0 (header_at a i) ≡ false → consulted_fields (header_at a i) ≡ consulted_fields (header_at b i)
    unfolding header_at section_header_of consulted_fields in_section_header
    fields-alike some =
        let h = header_at a i in
        simp (
          ← table-at-alike,
          ← type-at-alike,
          rw add-zero at (at-alike 4 0 λ x low high. simp (some, in-range 0 4 x low high, or-true)),
          at-alike 8 8 λ x low high. simp (some, in-range 8 8 x low high, or-true),
          at-alike 8 32 λ x low high. simp (some, in-range 32 8 x low high, or-true),
          at-alike 8 48 λ x low high. simp (some, in-range 48 8 x low high, or-true),
          cond-alike (has_type 8 h) 0 0 _ _ (λ _. refl)
              (λ full. at-alike 8 24 λ x low high. simp (some, full, in-range 24 8 x low high, or-true)),
          cond-alike (has_type 2 h || has_type 4 h) _ _ 0 0
              (λ linked. at-alike 4 40 λ x low high. simp (some, linked, in-range 40 4 x low high, or-true))
              (λ _. refl),
          cond-alike (has_type 4 h) _ _ 0 0
              (λ typed. at-alike 4 44 λ x low high. simp (some, typed, in-range 44 4 x low high, or-true))
              (λ _. refl),
          cond-alike (has_type 2 h || has_type 4 h) _ _ 0 0
              (λ linked. at-alike 8 56 λ x low high. simp (some, linked, in-range 56 8 x low high, or-true))
              (λ _. refl),
        )

    -- where the contents of a string table stand
    string-table-alike :
        has_type 3 (header_at a i) ≡ true →
        ((header_at a i).sh_offset ≡ (header_at b i).sh_offset) × ((header_at a i).sh_size ≡ (header_at b i).sh_size)
    unfolding consulted_fields
    string-table-alike typed =
        let three = eqb-true (header_at a i).sh_type 3 typed in
        let full : has_type 8 (header_at a i) ≡ false = rw three in
        let other : has_type 8 (header_at b i) ≡ false = rw (← type-alike) full in
        let same = fields-alike (rw three) in
        (rw (full, other) at (ap (λ (h : SectionHeader). h.sh_offset) same), ap (λ (h : SectionHeader). h.sh_size) same)

  pub name_table-rules-alike : name_table_rules a ≡ name_table_rules b
  unfolding name_table_rules
  name_table-rules-alike = by-test (ltb (name_section a) (section_count a)) refl
    where
      by-type :
          name_section a < section_count a → (t : Bool) → has_type 3 (header_at a (name_section a)) ≡ t →
          name_table_rules a ≡ name_table_rules b
      by-type below true e =
          let same = string-table-alike (name_section a) below e in
          rw (same.0, same.1, type-alike (name_section a) below, alike.size, names-alike, count-alike)
      by-type below false e =
          let other : has_type 3 (header_at b (name_section b)) ≡ false = rw (← names-alike, ← type-alike (name_section a) below) e in
          simp (e, other, and-false)

      by-test : (t : Bool) → ltb (name_section a) (section_count a) ≡ t → name_table_rules a ≡ name_table_rules b
      by-test true e = by-type (ltb-true _ _ e) (has_type 3 (header_at a (name_section a))) refl
      by-test false e =
          let other : ltb (name_section b) (section_count b) ≡ false = rw (← names-alike, ← count-alike) e in
          rw (e, other)

  -- ---- a section that is read

  pub read_alike :
      (i : ℕ) → i < section_count a → is_read (sections a) (section a i) ≡ true →
      contents_of a (section a i).header ≡ contents_of b (section a i).header
  read_alike i below read =
      contents-alike a b alike.size (section a i).header λ p low high. alike.same p (by_contents i below read low high)

  -- ---- the sections

  module _ (names : name_table_rules a ≡ Ok tt) where
    name_table-alike : name_table a ≡ name_table b
    unfolding name_table contents_of
    name_table-alike =
        let i = name_section a in
        let below = names-inside a names in
        let typed = names-typed a names in
        let same = string-table-alike i below typed in
        let read = strings-read (sections a) (section a i) (strings-typed a i below typed) in
        sym (strings-contents a i below typed a)
        ∙ read_alike i below read
        ∙ strings-contents a i below typed b
        ∙ rw (same.0, same.1, names-alike)

    section-read-alike : (i : ℕ) → i < section_count a → section_read a i ≡ section_read b i
    section-read-alike i below = by-test (has_type 0 (header_at a i)) refl
      where
        by-test : (t : Bool) → has_type 0 (header_at a i) ≡ t → section_read a i ≡ section_read b i
        by-test true e = read-null a i e ∙ sym (read-null b i (rw (← type-alike i below) e))
        by-test false e =
            let other : has_type 0 (header_at b i) ≡ false = rw (← type-alike i below) e in
            rw (read_by a i e, read_by b i other, name_table-alike, fields-alike i below e)

    pub sections-alike : sections a ≡ sections b
    unfolding sections
    sections-alike =
        filled-alike (section_read a) (section_read b) no_entry sections_max (section_count a) section-read-alike
        ∙ ap (filled (section_read b) no_entry sections_max) count-alike
