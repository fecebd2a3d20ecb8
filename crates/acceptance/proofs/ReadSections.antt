-- Which sections are read: those whose contents a rule asks for, and neither an ignored one nor the relocations of one.
use Prim.Native.Nat.{ℕ, ◌<◌}
use mathlib.Core.Path.{◌≡◌, refl, sym, ◌∙◌}
use mathlib.Core.Bool.{Bool, true, false, cond, ◌||◌, or-true, or-false, and-false, false≢true}
use mathlib.Core.List.{List}
use borrow.Author.Tests.{eqb-true, ne_eqb}
use Rattle.words.specs.Order.{equal}
use Rattle.words.specs.Text.{ascii}
use Rattle.words.proofs.Tests.{both}
use Rattle.elf.specs.Name.{Name, named, unnamed}
use Rattle.elf.specs.declared.SectionHeader.{SectionHeader}
use Rattle.kinds.specs.Kinds.{is_allocated, has_type, kind_named, kind_of, kind_code, is_kind, is_note_kind}
use Rattle.kinds.specs.declared.Kind.{Kind}
use Rattle.kinds.specs.declared.Kind.TheVariants.{Symbols, Strings, Relocations, Ignored, Unknown}
use Rattle.object.specs.Sections.{section_count, header_at, no_entry, section_name, sections}
use Rattle.object.specs.declared.sections.SectionEntry.{SectionEntry}
use Rattle.placement.specs.Placement.{is_placed, has_contents}
use Rattle.relocation.specs.Relocating.{is_relocating}
use Rattle.object.proofs.SectionLaws.{read-null, read-kind, read-type, read-typed, section-in}
use Rattle.acceptance.specs.Consulted.{within, in_section_header, is_read, is_ignored}
use Rattle.acceptance.specs.Rules.{section}

-- ---- sections that are read

module _ (ss : List SectionEntry) (s : SectionEntry) where
  pub placed-read : has_contents s ≡ true → is_read ss s ≡ true
  placed-read h = simp h

  pub note-read : is_note_kind s.kind ≡ true → is_read ss s ≡ true
  note-read h = simp (h, or-true)

  pub symbols-read : is_kind s.kind Symbols ≡ true → is_read ss s ≡ true
  symbols-read h = simp (h, or-true)

  pub strings-read : has_type 3 s.header ≡ true → is_read ss s ≡ true
  strings-read h = simp (h, or-true)

  pub relocations-read : is_relocating ss s ≡ true → is_read ss s ≡ true
  relocations-read h = simp (h, or-true)

-- ---- sections that are not read

-- the kinds by which a section may be left unread
abbrev is_left : Kind → Bool
is_left k = is_kind k Ignored || is_kind k Relocations

-- what the name makes of a section of type 3 is none of them
named-left : (p q r s : Bool) → is_left (cond p Unknown (cond q Unknown (cond r Unknown (cond s Unknown Strings)))) ≡ false
named-left true q r s = refl
named-left false true r s = refl
named-left false false true s = refl
named-left false false false true = refl
named-left false false false false = refl

strings-left : (h : SectionHeader) (name : Name) → h.sh_type ≡ 3 → is_left (kind_of h name) ≡ false
unfolding kind_named
strings-left h (named name) e =
    let funcs = equal name (ascii ".livepatch.funcs") in
    let depends = equal name (ascii ".livepatch.depends") in
    let id = equal name (ascii ".note.gnu.build-id") in
    simp (e, and-false) (named-left funcs depends id (is_allocated h))
strings-left h unnamed e = refl

-- "of a type 0 section only the type is consulted": of its header
pub type-0-header : (h : SectionHeader) (q : ℕ) → has_type 0 h ≡ true → in_section_header h q ≡ within 4 4 q
unfolding in_section_header
type-0-header h q typed = rw (typed, or-false)

module _ (file : List ℕ) (i : ℕ) (below : i < section_count file) where
  -- a section of type 0 is read as none
  null-read : has_type 0 (section file i).header ≡ true → section file i ≡ no_entry
  null-read e =
      let same = section-in file i below in
      same ∙ read-null file i (sym (read-typed file i 0) ∙ rw same at e)

  left_typed : is_left (section file i).kind ≡ true → has_type 3 (section file i).header ≡ false
  left_typed left = ne_eqb (section file i).header.sh_type 3 λ e.
      let same = section-in file i below in
      let typed : (header_at file i).sh_type ≡ 3 = sym (read-type file i) ∙ rw same at e in
      let some : has_type 0 (header_at file i) ≡ false = rw typed in
      false≢true (sym (strings-left (header_at file i) (section_name file i) typed) ∙ rw (same, read-kind file i some) at left)

  -- "Ignored: without 0x2, type 1, .."
  pub ignored-not-read : (section file i).kind ≡ Ignored → is_read (sections file) (section file i) ≡ false
  unfolding has_contents is_placed is_relocating
  ignored-not-read e = rw (left_typed (rw e), e)

  -- "and every type 0"
  pub type-0-not-read : has_type 0 (section file i).header ≡ true → is_read (sections file) (section file i) ≡ false
  unfolding has_contents is_placed is_relocating no_entry
  type-0-not-read typed = rw (null-read typed)

  -- "in the second case the type 4 contents are ignored too"
  pub ignored-relocations-not-read :
      (section file i).kind ≡ Relocations → (section file (section file i).header.sh_info).kind ≡ Ignored →
      is_read (sections file) (section file i) ≡ false
  unfolding has_contents is_placed is_relocating
  ignored-relocations-not-read e target = rw (left_typed (rw e), e, target)

  -- so no ignored contents are read by themselves
  pub ignored-unread : is_ignored (sections file) (section file i) ≡ true → is_read (sections file) (section file i) ≡ false
  unfolding has_contents is_placed is_relocating
  ignored-unread e = by_kind (is_kind (section file i).kind Ignored) refl
    where
      by-type : (b : Bool) → has_type 0 (section file i).header ≡ b → is_kind (section file i).kind Ignored ≡ false → is_read (sections file) (section file i) ≡ false
      by-type true typed other = type-0-not-read typed
      by-type false typed other =
          let target = (section file (section file i).header.sh_info).kind in
          let joined = both (is_kind (section file i).kind Relocations) (is_kind target Ignored) (rw (other, typed) at e) in
          rw (left_typed (rw (joined.0, or-true)), eqb-true (kind_code (section file i).kind) (kind_code Relocations) joined.0, joined.1)

      by_kind : (b : Bool) → is_kind (section file i).kind Ignored ≡ b → is_read (sections file) (section file i) ≡ false
      by_kind true ignored = rw (left_typed (rw ignored), eqb-true (kind_code (section file i).kind) (kind_code Ignored) ignored)
      by_kind false other = by-type (has_type 0 (section file i).header) refl other
