-- Two files with the same sections, of which those that are read have the same contents: their notes, the slot's bytes and their
-- relocations are the same.
use Rattle.records.specs.Refusal.{Verdict}
use Rattle.std.proofs.Common.{Ok, Err}
use Prim.Native.Nat.{ℕ, zero, suc, ◌+◌, ◌≤◌, ◌<◌}
use mathlib.Core.Path.{◌≡◌, refl, sym, ap, ◌∙◌}
use mathlib.Core.Bool.{true}
use mathlib.Core.List.{List}
use native.Mathlib.Omega.{arith}
use Rattle.words.specs.Splice.{splice}
use Rattle.records.specs.Verdict.{◌then◌}
use Rattle.machine.specs.Machine.{Machine}
use Rattle.kinds.specs.Kinds.{is_note_kind}
use Rattle.object.specs.Sections.{section_in, contents_of}
use Rattle.object.specs.declared.sections.SectionEntry.{SectionEntry}
use Rattle.notes.specs.Notes.{one_note, note_rules}
use Rattle.placement.specs.Placement.{offset_of, has_contents, image_before}
use Rattle.placement.proofs.PlacementLaws.{laid, image-begin, image-next}
use Rattle.linking.specs.Linking.{Linking}
use Rattle.relocation.specs.Relocating.{Relocated, go_on, is_relocating, relocate_section, relocate_from, relocate_all}
use Rattle.acceptance.specs.Consulted.{is_read}
use Rattle.acceptance.proofs.Parts.{cond-alike, scan-alike}
use Rattle.acceptance.proofs.ReadSections.{placed-read, note-read, relocations-read}

-- each of the n sections that is read has the same contents in both files
abbrev pub SameContents : List ℕ → List ℕ → List SectionEntry → ℕ → Type 0
SameContents a b ss n =
    (i : ℕ) → i < n → is_read ss (section_in ss i) ≡ true → contents_of a (section_in ss i).header ≡ contents_of b (section_in ss i).header

-- what goes on alike from all bytes ends alike
go-on-alike :
    (v : Verdict) (image : List ℕ) (f g : List ℕ → Relocated) → ((other : List ℕ) → f other ≡ g other) → go_on v image f ≡ go_on v image g
go-on-alike (Ok _) image f g same = same image
go-on-alike (Err r) image f g same = refl

module _ (a b : List ℕ) (ss : List SectionEntry) (n : ℕ) (same : SameContents a b ss n) where
  -- ---- notes

  one_note-alike : (i : ℕ) → i < n → (rest : Verdict) → one_note a ss i rest ≡ one_note b ss i rest
  one_note-alike i below rest =
      ap (λ (v : Verdict). v then rest)
      (cond-alike (is_note_kind (section_in ss i).kind) _ _ _ _ (λ e. rw (same i below (note-read ss (section_in ss i) e))) (λ _. refl))

  pub notes-alike : note_rules a ss n ≡ note_rules b ss n
  unfolding note_rules
  notes-alike = scan-alike (one_note a ss) (one_note b ss) (Ok tt) 0 n λ i low high. one_note-alike i (omega arith)

  -- ---- the slot's bytes

  laid-alike :
      (image : List ℕ) (i : ℕ) → i < n →
      laid a image (offset_of ss i) (section_in ss i) ≡ laid b image (offset_of ss i) (section_in ss i)
  laid-alike image i below =
      cond-alike (has_contents (section_in ss i)) _ _ _ _
      (λ e. ap (splice image (offset_of ss i)) (same i below (placed-read ss (section_in ss i) e)))
      (λ _. refl)

  pub image-alike : (i : ℕ) → i ≤ n → image_before a ss i ≡ image_before b ss i
  image-alike zero h = sym (image-begin a ss) ∙ image-begin b ss
  image-alike (suc i) h =
      let so_far = image-alike i (omega arith) in
      rw (image-next a ss i, image-next b ss i, so_far) (laid-alike (image_before b ss i) i h)

-- ---- relocations

module _ (m : Machine) (l : Linking) (a b : List ℕ) (same : SameContents a b l.sections l.count) where
  section-alike : (i : ℕ) → i < l.count → (image : List ℕ) → relocate_section m l a i image ≡ relocate_section m l b i image
  unfolding relocate_section
  section-alike i below image =
      let s = section_in l.sections i in
      cond-alike (is_relocating l.sections s) _ _ _ _
      (λ e. rw (same i below (relocations-read l.sections s e)))
      (λ _. refl)

  from-alike : (k i : ℕ) → i + k ≤ l.count → (image : List ℕ) → relocate_from m l a i k image ≡ relocate_from m l b i k image
  unfolding relocate_from
  from-alike zero i h image = refl
  from-alike (suc k) i h image =
      rw (section-alike i (omega arith) image)
      (go-on-alike (relocate_section m l b i image).verdict _ _ _ (from-alike k (suc i) (omega arith)))

  pub relocate-alike : (image : List ℕ) → relocate_all m l a image ≡ relocate_all m l b image
  unfolding relocate_all
  relocate-alike image = from-alike l.count 0 (omega arith) image
