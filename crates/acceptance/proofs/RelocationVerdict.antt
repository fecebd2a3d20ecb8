-- The verdict of all relocations is a scan of the sections, each a scan of its entries: the slot's bytes decide nothing.
use Rattle.records.specs.Refusal.{Verdict}
use Rattle.std.proofs.Common.{Ok, Err}
use Prim.Native.Nat.{ℕ, zero, suc, ◌*◌}
use mathlib.Core.Path.{◌≡◌, refl}
use mathlib.Core.Bool.{Bool, true, false, cond}
use mathlib.Core.List.{List}
use Rattle.words.specs.Scan.{scan}
use Rattle.records.specs.Verdict.{◌then◌}
use Rattle.elf.specs.Layout.{relocation_size, relocation_of}
use Rattle.machine.specs.Machine.{Machine}
use Rattle.object.specs.Sections.{section_count, sections}
use Rattle.placement.specs.Placement.{image_before}
use Rattle.linking.specs.Linking.{Linking}
use Rattle.reader.specs.Entries.{relocation_count}
use Rattle.relocation.specs.Relocating.{
  Field,
  Relocated,
  relocated,
  field_of,
  field_verdict,
  go_on,
  relocate_entry,
  relocate_entries,
  is_relocating,
  relocate_section,
  relocate_from,
  relocate_all,
}
use Rattle.relocation.specs.declared.fields.Area.{Area}
use Rattle.acceptance.specs.Rules.{section, contents_at, relocation_at, area_at}
use Rattle.acceptance.specs.Stages.{Setting, machine_at, linking_for, relocated_of}

-- ---- what goes on after a verdict, and what is done only where a test holds

go-on-verdict :
    (v rest : Verdict) (image : List ℕ) (next : List ℕ → Relocated) → ((other : List ℕ) → (next other).verdict ≡ rest) →
    (go_on v image next).verdict ≡ (v then rest)
go-on-verdict (Ok _) rest image next h = h image
go-on-verdict (Err r) rest image next h = refl

where-verdict :
    (test : Bool) (r : Relocated) (image : List ℕ) {v : Verdict} → r.verdict ≡ v →
    (cond test r (relocated (Ok tt) image)).verdict ≡ cond test v (Ok tt)
where-verdict true r image h = h
where-verdict false r image h = refl

-- ---- the entries of one section

module _ (m : Machine) (l : Linking) (area : Area) (entries : List ℕ) where
  entries-verdict :
      (e k : ℕ) (image : List ℕ) →
      (relocate_entries m l area entries e k image).verdict
      ≡ scan (λ j rest. field_verdict (field_of m l area (relocation_of entries (relocation_size * j))) area.section j then rest) (Ok tt) e k
  unfolding relocate_entries scan
  entries-verdict e zero image = refl
  entries-verdict e (suc k) image =
      let now = relocate_entry m l area entries e image in
      go-on-verdict now.verdict _ now.image (relocate_entries m l area entries (suc e) k) (entries-verdict (suc e) k)

-- ---- the sections of a file

module _ (t : Setting) (file : List ℕ) where
  -- what entry e of section i does
  abbrev pub field_at : ℕ → ℕ → Field
  field_at i e = field_of (machine_at t) (linking_for t file) (area_at file i) (relocation_at file i e)

  -- the verdict of the relocations of section i, and that of a section that may have none
  abbrev pub entry_rules : ℕ → Verdict
  entry_rules i = scan (λ e rest. field_verdict (field_at i e) i e then rest) (Ok tt) 0 (relocation_count (contents_at file i))

  abbrev pub section_rules : ℕ → Verdict
  section_rules i = cond (is_relocating (sections file) (section file i)) (entry_rules i) (Ok tt)

  section-verdict :
      (i : ℕ) (image : List ℕ) → (relocate_section (machine_at t) (linking_for t file) file i image).verdict ≡ section_rules i
  unfolding relocate_section
  section-verdict i image =
      where-verdict (is_relocating (sections file) (section file i)) _ image
      (entries-verdict (machine_at t) (linking_for t file) (area_at file i) (contents_at file i) 0 _ image)

  sections-verdict :
      (i k : ℕ) (image : List ℕ) →
      (relocate_from (machine_at t) (linking_for t file) file i k image).verdict ≡ scan (λ j rest. section_rules j then rest) (Ok tt) i k
  unfolding relocate_from scan
  sections-verdict i zero image = refl
  sections-verdict i (suc k) image =
      let now = relocate_section (machine_at t) (linking_for t file) file i image in
      let later = relocate_from (machine_at t) (linking_for t file) file (suc i) k in
      rw (← section-verdict i image) (go-on-verdict now.verdict _ now.image later (sections-verdict (suc i) k))

  pub relocated-verdict : (relocated_of t file).verdict ≡ scan (λ i rest. section_rules i then rest) (Ok tt) 0 (section_count file)
  unfolding relocated_of relocate_all
  relocated-verdict = sections-verdict 0 (section_count file) (image_before file (sections file) (section_count file))
