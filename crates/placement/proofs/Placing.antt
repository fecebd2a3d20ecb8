-- The loop of `place`: what holds once the sections before section i are placed, where it begins, a turn of it, and its two ends.
use Rattle.std.proofs.Common.{Ok, Err}
use Prim.Native.Nat.{ℕ, ◌+◌, ◌-◌, ◌≤◌, ◌<◌}
use mathlib.Core.Path.{◌≡◌, refl, sym, ap, ◌∙◌}
use mathlib.Core.Bool.{Bool, true, false, cond}
use mathlib.Core.List.{List}
use native.Mathlib.Numerals.{add-one}
use native.Mathlib.Omega.{arith}
use borrow.Author.Tests.{le-leb, leb-true}
use lib.Dec.{leb}
use lib.ListN.{length, set, replicate}
use Rattle.words.specs.Scan.{scan}
use Rattle.words.proofs.Scan.{begin, turn, end, fill-begin, fill-turn}
use Rattle.records.specs.Limits.{sections_max, placed_max}
use Rattle.records.specs.Verdict.{refusal, decide}
use Rattle.records.specs.Refusal.{reason_for, Verdict}
use Rattle.records.specs.declared.refusal.Place.TheVariants.{Section}
use Rattle.object.specs.Sections.{section_in}
use Rattle.object.specs.declared.sections.SectionEntry.{SectionEntry}
use Rattle.std.proofs.Common.{Option, Some, None}
use Rattle.placement.specs.Placement.{
  section_start,
  section_end,
  end_before,
  offset_of,
  one_placed,
  placement_rules,
  step_of,
  no_bytes,
  image_before,
  bound_for,
  layout_of,
  PlacedSlot,
  placed_slot,
  refused_placement,
  refused_at,
  accepted_placement,
  placement_of,
}
use Rattle.placement.proofs.PlacementLaws.{laid, image-begin, image-next, length_before}

-- ---- one step

module _ (before : ℕ) (s : SectionEntry) where
  -- the section starts at start, what is placed then ends at next, and that fits the slot
  pub record Fits (start next : ℕ) : Type 0 where
    pub room : section_end before s ≤ placed_max
    pub start_is : start ≡ section_start before s
    pub next-is : next ≡ section_end before s

  abbrev step_by : Bool → Option (ℕ × ℕ)
  step_by b = cond b (Some (section_start before s, section_end before s)) None

  -- what a step says: the section fits, or it does not
  pub step-at : {start next : ℕ} → step_of before s ≡ Some (start, next) → Fits start next
  unfolding step_of
  step-at {start} {next} e = by_cases (leb (section_end before s) placed_max) refl e
    where
      by_cases : (b : Bool) → leb (section_end before s) placed_max ≡ b → step_by b ≡ Some (start, next) → Fits start next
      by_cases true r h =
          let both : ◌≡◌ {A = ℕ × ℕ} (start, next) (section_start before s, section_end before s) = cc in
          record { room = leb-true _ _ r; start_is = ap (λ (p : ℕ × ℕ). p.0) both; next-is = ap (λ (p : ℕ × ℕ). p.1) both }
      by_cases false r h = let never : ◌≡◌ {A = ℕ} 0 1 = cc in absurd (omega arith)

  step-over : step_of before s ≡ None → leb (section_end before s) placed_max ≡ false
  unfolding step_of
  step-over e = by_cases (leb (section_end before s) placed_max) e
    where
      by_cases : (b : Bool) → step_by b ≡ None → b ≡ false
      by_cases true h = cc
      by_cases false h = refl

-- ---- the loop

-- the first i sections are placed, and the rules of those after them decide
pub record Placing (file : List ℕ) (ss : List SectionEntry) (count : ℕ) (offsets bounds image : List ℕ) (placed i : ℕ) : Type 0 where
  pub within : i ≤ count
  pub placed_is : placed ≡ end_before ss i
  pub placed_fits : placed ≤ placed_max
  pub offsets_are : offsets ≡ (layout_of ss i).offsets
  pub bounds_are : bounds ≡ (layout_of ss i).bounds
  pub image_is : image ≡ image_before file ss i
  pub rest : placement_rules ss count ≡ scan (one_placed ss) (Ok tt) i (count - i)

-- before the first section
pub placing-begin :
    (file : List ℕ) (ss : List SectionEntry) (count : ℕ) {image : List ℕ} → image ≡ no_bytes →
    Placing file ss count (replicate sections_max 0) (replicate sections_max 0) image 0 0
unfolding placement_rules end_before layout_of
placing-begin file ss count empty =
    record {
      within = omega arith;
      placed_is = refl;
      placed_fits = omega arith;
      offsets_are = fill-begin _ _ _;
      bounds_are = fill-begin _ _ _;
      image_is = empty ∙ image-begin file ss;
      rest = begin _ _ _;
    }

module _
    {file : List ℕ} {ss : List SectionEntry} {count : ℕ} {offsets bounds image : List ℕ} {placed i : ℕ}
    (p : Placing file ss count offsets bounds image placed i) where
  -- the slot's bytes are as many as at first
  pub image-length : length image ≡ placed_max
  image-length = rw p.image_is (length_before file ss i (omega arith))

  -- a section that fits is placed
  pub placing-turn :
      {start next : ℕ} → i < count → i < sections_max → step_of placed (section_in ss i) ≡ Some (start, next) →
      Placing file ss count
      (set offsets i start)
      (set bounds i (bound_for (section_in ss i)))
      (laid file image start (section_in ss i))
      next
      (i + 1)
  unfolding end_before offset_of layout_of
  placing-turn more short e =
      let fits = step-at (end_before ss i) (section_in ss i) (rw p.placed_is at e) in
      record {
        within = omega arith;
        placed_is = fits.next-is ∙ rw add-one;
        placed_fits = omega arith;
        offsets_are = rw (p.offsets_are, fits.start_is) (fill-turn (offset_of ss) 0 sections_max i short);
        bounds_are = rw p.bounds_are (fill-turn (λ i. bound_for (section_in ss i)) 0 sections_max i short);
        image_is = rw (add-one, image-next, p.image_is, fits.start_is);
        rest = p.rest ∙ turn _ _ _ _ more ∙ rw (le-leb _ _ fits.room);
      }

  -- the first that does not fit refuses
  pub placing-refuses : i < count → step_of placed (section_in ss i) ≡ None → refused_at i ≡ placement_of file ss count
  unfolding end_before placement_of refused_at
  placing-refuses more e =
      let over = step-over (end_before ss i) (section_in ss i) (rw p.placed_is at e) in
      let refused : placement_rules ss count ≡ Err (refusal (reason_for 12) (Section i)) = p.rest ∙ turn _ _ _ _ more ∙ rw over in
      sym (ap (λ (v : Verdict). decide refused_placement (accepted_placement file ss count) v) refused)

  -- where all fit, they are placed
  pub placing-ends :
      count ≤ i →
      ◌≡◌ {A = PlacedSlot}
      (placed_slot (Ok (record { layout = record { offsets = offsets; bounds = bounds }; placed = placed })) image)
      (placement_of file ss count)
  unfolding placement_of
  placing-ends h =
      let all : i ≡ count = omega arith in
      rw (p.rest ∙ end _ _ _ _ h, p.offsets_are, p.bounds_are, p.placed_is, p.image_is, all)
