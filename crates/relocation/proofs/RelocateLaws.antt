-- Relocation over the slot's bytes: a turn and the end of each loop, and that the slot keeps its length.
use Rattle.records.specs.Refusal.{Verdict}
use Rattle.std.proofs.Common.{Some, None, Ok, Err}
use Prim.Native.Nat.{ℕ, zero, suc, ◌+◌, ◌*◌, ◌-◌, ◌≤◌, ◌<◌}
use mathlib.Core.Path.{◌≡◌, refl, sym, ◌∙◌}
use mathlib.Core.Bool.{Bool, true, false, cond, not, ◌&&◌}
use mathlib.Core.List.{List}
use native.Mathlib.Numerals.{add-one}
use native.Mathlib.Omega.{arith}
use lib.ListN.{length, get_or, length-take, length-drop}
use Rattle.words.specs.Splice.{part}
use Rattle.words.proofs.Splice.{length_part, length-splice}
use Rattle.words.proofs.Tests.{both}
use Rattle.records.specs.Limits.{placed_max, sections_max}
use Rattle.elf.specs.Layout.{relocation_size, relocation_of}
use Rattle.elf.specs.declared.SectionHeader.{SectionHeader}
use Rattle.machine.specs.Host.{rule_of, host_machine}
use Rattle.machine.specs.Machine.{Machine}
use Rattle.machine.specs.declared.host.Host.{Host}
use Rattle.machine.proofs.Laws.{length-field}
use Rattle.kinds.specs.Kinds.{is_kind}
use Rattle.kinds.specs.declared.Kind.TheVariants.{Relocations, Ignored}
use Rattle.object.specs.Sections.{section_in, contents_of}
use Rattle.object.specs.declared.sections.SectionEntry.{SectionEntry}
use Rattle.payload.specs.declared.read.Reading.{Reading}
use Rattle.placement.specs.Placement.{layout_of}
use Rattle.placement.specs.declared.Layout.{Layout}
use Rattle.placement.proofs.PlacementLaws.{offset-kept}
use Rattle.linking.specs.Kept.{Kept}
use Rattle.linking.specs.Linking.{Linking}
use Rattle.linking.specs.declared.kept.Cell.{Cell}
use Rattle.reader.specs.Entries.{relocation_count}
use Rattle.relocation.specs.Relocating.{Field, field_of, Relocated, relocated, store_in, FieldFits, go_on, relocate_entry, continue, relocate_entries, is_made_in, is_relocating, target_of, area_of, relocate_section, relocate_from, relocate_all, linking_of, Linkable, Given, AreaFits}
use Rattle.relocation.specs.declared.fields.Area.{Area}
use Rattle.relocation.proofs.FieldLaws.{field_fits}

-- ---- one field

length-stored : (image : List ℕ) (f : Field) → FieldFits f (length image) → length (store_in image f) ≡ length image
length-stored image (Ok (Some s)) h =
    let new = length-field s.field (part image s.at (rule_of s.field).width) s.value (length_part image s.at (rule_of s.field).width h) in
    length-splice image s.at _ (rw new h)
length-stored image (Ok None) h = refl
length-stored image (Err reason) h = refl

-- ---- the entries of one section

module _ (m : Machine) (l : Linking) (area : Area) (entries : List ℕ) (e n : ℕ) (image : List ℕ) where
  pub entries-turn :
      e < n →
      relocate_entries m l area entries e (n - e) image
      ≡ continue (relocate_entry m l area entries e image) (relocate_entries m l area entries (e + 1) (n - (e + 1)))
  unfolding relocate_entries
  entries-turn h =
      let left : n - e ≡ suc (n - (e + 1)) = omega arith in
      rw (left, add-one e)

  pub entries-end : n ≤ e → relocate_entries m l area entries e (n - e) image ≡ relocated (Ok tt) image
  unfolding relocate_entries
  entries-end h =
      let none : n - e ≡ 0 = omega arith in
      rw none

-- ---- the sections

pub relocating-kind : (ss : List SectionEntry) (s : SectionEntry) → is_relocating ss s ≡ true → is_kind s.kind Relocations ≡ true
unfolding is_relocating
relocating-kind ss s e = (both _ _ e).0

-- the target, as the code looks for it
module _ (ss : List SectionEntry) (s : SectionEntry) where
  pub made-in-target : is_made_in s (section_in ss (target_of s)) ≡ is_relocating ss s
  unfolding is_relocating
  made-in-target = by_kind (is_kind s.kind Relocations)
    where
      by_kind :
          (b : Bool) →
          (b && not (is_kind (section_in ss (cond b s.header.sh_info 0)).kind Ignored))
          ≡ (b && not (is_kind (section_in ss s.header.sh_info).kind Ignored))
      by_kind true = refl
      by_kind false = refl

  pub target_is : is_relocating ss s ≡ true → target_of s ≡ s.header.sh_info
  target_is e = rw (relocating-kind ss s e)

pub target_below :
    (s : SectionEntry) → (is_kind s.kind Relocations ≡ true → s.header.sh_info < sections_max) → target_of s < sections_max
target_below s h = by_kind (is_kind s.kind Relocations) refl
  where
    by_kind : (b : Bool) → is_kind s.kind Relocations ≡ b → target_of s < sections_max
    by_kind true e = rw e (h e)
    by_kind false e = rw e (omega arith)

-- where the layout has it
pub area-at :
    (ss : List SectionEntry) (n i : ℕ) {target : ℕ} {layout : Layout} → target ≡ (section_in ss i).header.sh_info → layout ≡ layout_of ss n →
    (section_in ss i).header.sh_info < n →
    ◌≡◌ {A = Area}
    (record { section = i; start = get_or layout.offsets target 0; size = (section_in ss target).header.sh_size })
    (area_of ss i)
area-at ss n i e placed below = rw (e, placed, offset-kept _ _ _ below)

pub contents-short : (file : List ℕ) (h : SectionHeader) → length (contents_of file h) ≤ length file
unfolding contents_of part
contents-short file h = simp (length-take, length-drop) (omega arith)

module _ (m : Machine) (l : Linking) (file : List ℕ) (i : ℕ) (image : List ℕ) where
  -- a section gives what its entries give, where they are made, and nothing where they are not
  pub section-made :
      {area : Area} {entries : List ℕ} {left : Relocated} → is_relocating l.sections (section_in l.sections i) ≡ true →
      area ≡ area_of l.sections i → entries ≡ contents_of file (section_in l.sections i).header →
      left ≡ relocate_entries m l area entries 0 (relocation_count entries) image → relocate_section m l file i image ≡ left
  unfolding relocate_section
  section-made test place contents gave = rw (test, ← place, ← contents) (sym gave)

  pub section-passed : is_relocating l.sections (section_in l.sections i) ≡ false → relocate_section m l file i image ≡ relocated (Ok tt) image
  unfolding relocate_section
  section-passed test = rw test

module _ (m : Machine) (l : Linking) (file : List ℕ) (i n : ℕ) (image : List ℕ) where
  pub sections-turn :
      i < n →
      relocate_from m l file i (n - i) image ≡ continue (relocate_section m l file i image) (relocate_from m l file (i + 1) (n - (i + 1)))
  unfolding relocate_from
  sections-turn h =
      let left : n - i ≡ suc (n - (i + 1)) = omega arith in
      rw (left, add-one i)

  pub sections-end : n ≤ i → relocate_from m l file i (n - i) image ≡ relocated (Ok tt) image
  unfolding relocate_from
  sections-end h =
      let none : n - i ≡ 0 = omega arith in
      rw none

-- ---- the symbols

-- what a relocation is given of l it is given with other cells that stand for the same symbols
pub still-given :
    {l : Linking} {host : Host} {cells : List Cell} {strings list : List ℕ} (after : List Cell) → Given l host cells strings list → Kept l after →
    Given l host after strings list
still-given after g kept = record {
  address = g.address;
  sought = record { kept = kept; names = g.sought.names; listed = g.sought.listed };
}

-- ---- the slot keeps its length

abbrev Whole : List ℕ → Type 0
Whole image = length image ≡ placed_max

whole-go-on :
    (v : Verdict) (image : List ℕ) (next : List ℕ → Relocated) → Whole image → ((other : List ℕ) → Whole other → Whole (next other).image) →
    Whole (go_on v image next).image
whole-go-on (Ok _) image next now after = after image now
whole-go-on (Err r) image next now after = now

whole-continue :
    (r : Relocated) (next : List ℕ → Relocated) → Whole r.image → ((other : List ℕ) → Whole other → Whole (next other).image) →
    Whole (continue r next).image
whole-continue r next = whole-go-on r.verdict r.image next

module _ (m : Machine) (l : Linking) where
  module _ (area : Area) (entries : List ℕ) (fits : AreaFits area) where
    whole-entry : (e : ℕ) (image : List ℕ) → Whole image → Whole (relocate_entry m l area entries e image).image
    whole-entry e image whole =
        let field = field_of m l area (relocation_of entries (relocation_size * e)) in
        let inside : FieldFits field (length image) = rw whole (field_fits m l area _ fits) in
        length-stored image field inside ∙ whole

    whole-entries : (k e : ℕ) (image : List ℕ) → Whole image → Whole (relocate_entries m l area entries e k image).image
    unfolding relocate_entries
    whole-entries zero e image whole = whole
    whole-entries (suc k) e image whole =
        whole-continue (relocate_entry m l area entries e image) _ (whole-entry e image whole) (whole-entries k (suc e))

  -- every target lies in the slot
  abbrev Inside : Type 0
  Inside = (i : ℕ) → i < l.count → is_relocating l.sections (section_in l.sections i) ≡ true → AreaFits (area_of l.sections i)

  module _ (file : List ℕ) (inside : Inside) where
    whole-section : (i : ℕ) → i < l.count → (image : List ℕ) → Whole image → Whole (relocate_section m l file i image).image
    whole-section i h image whole = by-test (is_relocating l.sections (section_in l.sections i)) refl
      where
        by-test : (b : Bool) → is_relocating l.sections (section_in l.sections i) ≡ b → Whole (relocate_section m l file i image).image
        by-test true test =
            rw (section-made m l file i image test refl refl refl) (whole-entries _ _ (inside i h test) _ 0 image whole)
        by-test false test = rw (section-passed m l file i image test) whole

    whole_from : (k i : ℕ) → i + k ≤ l.count → (image : List ℕ) → Whole image → Whole (relocate_from m l file i k image).image
    unfolding relocate_from
    whole_from zero i h image whole = whole
    whole_from (suc k) i h image whole =
        whole-continue (relocate_section m l file i image) _
        (whole-section i (omega arith) image whole)
        (whole_from k (suc i) (omega arith))

pub length-relocated :
    (host : Host) (file : List ℕ) (g : Reading) (list image : List ℕ) → Linkable (length image) file g →
    length (relocate_all (host_machine host) (linking_of host file g list) file image).image ≡ length image
unfolding relocate_all
length-relocated host file g list image linkable =
    whole_from _ (linking_of host file g list) file linkable.inside _ 0 (omega arith) image linkable.whole ∙ sym linkable.whole
