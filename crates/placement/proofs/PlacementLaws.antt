-- Placement: the next multiple, where the placed sections end, how long the slot's bytes are, and what is kept for the symbols.
use Rattle.std.proofs.Common.{Ok}
use Prim.Native.Nat.{ℕ, zero, suc, ◌+◌, ◌-◌, ◌*◌, ◌/◌, ◌%◌, ◌≤◌, ◌<◌}
use mathlib.Core.Path.{◌≡◌, refl, sym, ◌∙◌}
use mathlib.Core.Bool.{Bool, true, false, cond, not}
use mathlib.Core.List.{List}
use mathlib.Core.Logic.{⊎_elim}
use native.Mathlib.Nat.{eq-or-lt_of_le, mod-lt, mod-eq_of_lt, mul-mod_right, mul-suc, div-add-mod}
use native.Mathlib.Omega.{arith}
use borrow.Author.Tests.{ltb-true, ltb-false, leb-true, eqb-true, eqb-false, ne_eqb}
use lib.Dec.{ltb, leb, eqb}
use lib.ListN.{length, get_or, replicate, length-take, length-replicate}
use lib.Seq.{get_or-append-add}
use Rattle.words.specs.Scan.{each, filled}
use Rattle.words.specs.Splice.{part, splice}
use Rattle.words.proofs.Scan.{length-each, length-filled, get_or-filled}
use Rattle.words.proofs.Splice.{length-splice, splice-whole}
use Rattle.words.proofs.Tests.{both}
use Rattle.records.specs.Limits.{sections_max, placed_max}
use Rattle.records.specs.Verdict.{must, verdict_of}
use Rattle.records.specs.declared.refusal.Place.TheVariants.{Section}
use Rattle.records.proofs.Checks.{must-pass, scan-passes, Told}
use Rattle.kinds.specs.Kinds.{has_type}
use Rattle.object.specs.Sections.{section_in, contents_of}
use Rattle.object.specs.declared.sections.SectionEntry.{SectionEntry}
use Rattle.placement.specs.Placement.{
  is_placed,
  next_multiple,
  section_start,
  section_end,
  end_before,
  offset_of,
  placement_rules,
  has_contents,
  no_bytes,
  image_before,
  bound_for,
  layout_of,
  refused_placement,
  accepted_placement,
}

-- ---- the next multiple

module _ (at align : ℕ) where
  -- what is past a multiple is less than the alignment
  pub below-align : (align ≡ 0 → ⊥) → at % align < align
  below-align some = mod-lt at (omega arith)

  -- a number rounded up is its alignment, or at most twice the number
  pub rounded-below : (top : ℕ) → align < top → at + at < top → at + (align - at % align) < top
  rounded-below top h g = by_cases (ltb at align) refl
    where
      by_cases : (b : Bool) → ltb at align ≡ b → at + (align - at % align) < top
      by_cases true e =
          let short : at < align = ltb-true _ _ e in
          rw (mod-eq_of_lt short) (omega arith)
      by_cases false e = omega (arith, ltb-false at align e)

  -- "the next multiple of its alignment": a multiple, not below, and less than one alignment above
  pub multiple :
      (align ≡ 0 → ⊥) →
      (next_multiple at align % align ≡ 0) × (at ≤ next_multiple at align) × (next_multiple at align < at + align)
  unfolding next_multiple
  multiple some = rw (ne_eqb align 0 some) (by_cases (eqb (at % align) 0) refl)
    where
      by_cases :
          (b : Bool) → eqb (at % align) 0 ≡ b →
          let next = cond b at (at + (align - at % align)) in
          (next % align ≡ 0) × (at ≤ next) × (next < at + align)
      by_cases true e = (eqb-true _ _ e, omega arith, omega arith)
      by_cases false e =
          let past = eqb-false (at % align) 0 e in
          let whole : at + (align - at % align) ≡ align * suc (at / align) =
          omega (arith, mul-suc align (at / align), div-add-mod at align, below-align some) in
          (rw (whole, mul-mod_right), omega arith, omega (arith, past))

  next_low : at ≤ next_multiple at align
  unfolding next_multiple
  next_low = by_cases (eqb align 0) refl
    where
      by_cases : (b : Bool) → eqb align 0 ≡ b → at ≤ next_multiple at align
      by_cases true e = rw e (omega arith)
      by_cases false e = (multiple (eqb-false align 0 e)).1

-- ---- one section

module _ (end : ℕ) (s : SectionEntry) where
  -- no section makes what is placed shorter
  end_low : end ≤ section_end end s
  end_low = by_cases (is_placed s)
    where
      by_cases : (b : Bool) → end ≤ cond b (next_multiple end s.header.sh_addralign + s.header.sh_size) end
      by_cases true = omega (arith, next_low end s.header.sh_addralign)
      by_cases false = omega arith

  -- a placed section ends where its bytes end
  size-inside : is_placed s ≡ true → section_start end s + s.header.sh_size ≡ section_end end s
  size-inside e = rw e

  -- the bound of a section that fits the slot
  pub bound-inside : section_end end s ≤ placed_max → bound_for s ≤ placed_max + 1
  bound-inside h = by_cases (is_placed s) refl
    where
      by_cases : (b : Bool) → is_placed s ≡ b → bound_for s ≤ placed_max + 1
      by_cases true e = rw e (omega (arith, size-inside e))
      by_cases false e = rw e (omega arith)

-- the contents of a section are at most its size, and so end where it ends or before
contents-short : (file : List ℕ) (s : SectionEntry) → length (contents_of file s.header) ≤ s.header.sh_size
unfolding contents_of part
contents-short file s = rw length-take (omega arith)

pub contents-inside :
    (file : List ℕ) (end : ℕ) (s : SectionEntry) → has_contents s ≡ true →
    section_start end s + length (contents_of file s.header) ≤ section_end end s
unfolding has_contents
contents-inside file end s h =
    let placed = (both (is_placed s) (not (has_type 8 s.header)) h).0 in
    omega (arith, contents-short file s, size-inside end s placed)

-- ---- the sections in order

module _ (ss : List SectionEntry) where
  -- with more sections, what is placed never ends earlier
  pub end-rises : (i n : ℕ) → i ≤ n → end_before ss i ≤ end_before ss n
  unfolding end_before
  end-rises i zero h = let none : i ≡ 0 = omega arith in rw none (omega arith)
  end-rises i (suc n) h =
      ⊎_elim
      (λ e. rw e (omega arith))
      (λ l. omega (arith, end-rises i n (omega arith), end_low (end_before ss n) (section_in ss n)))
      (eq-or-lt_of_le h)

  -- every placed section lies within the placed bytes
  pub placed-inside :
      (n i : ℕ) → i < n → is_placed (section_in ss i) ≡ true → offset_of ss i + (section_in ss i).header.sh_size ≤ end_before ss n
  unfolding offset_of end_before
  placed-inside n i h placed =
      let inside = size-inside (end_before ss i) (section_in ss i) placed in
      omega (arith, end-rises (suc i) n h)

  -- the placed bytes of sections that pass fit the slot
  pub end-inside : (n : ℕ) → placement_rules ss n ≡ Ok tt → end_before ss n ≤ placed_max
  unfolding placement_rules end_before
  end-inside zero e = omega arith
  end-inside (suc n) e =
      let all = scan-passes (λ i. must (leb (end_before ss (suc i)) placed_max) 12 (Section i)) 0 (suc n) e in
      leb-true _ _ (must-pass _ _ _ (all n (omega arith) (omega arith)))

  -- and so each placed section lies inside the slot
  pub section-inside :
      (n i : ℕ) → placement_rules ss n ≡ Ok tt → i < n → is_placed (section_in ss i) ≡ true →
      offset_of ss i + (section_in ss i).header.sh_size ≤ placed_max
  section-inside n i e h placed = omega (arith, placed-inside n i h placed, end-inside n e)

-- ---- the slot's bytes

-- `no_bytes` unfolds in these alone: elsewhere its zeros would be written out
pub no_bytes-zeros : replicate placed_max 0 ≡ no_bytes
unfolding no_bytes
no_bytes-zeros = refl

pub length_none : length no_bytes ≡ placed_max
unfolding no_bytes
length_none = length-replicate {A = ℕ} placed_max 0

-- a slot that is filled with zeros holds no section
pub cleared : (image : List ℕ) → length image ≡ placed_max → splice image 0 (replicate placed_max 0) ≡ no_bytes
unfolding no_bytes
cleared image h = splice-whole image (replicate placed_max 0) (length-replicate {A = ℕ} placed_max 0 ∙ sym h)

module _ (file : List ℕ) where
  -- the bytes with the contents of one section laid over them, if it has any
  abbrev pub laid : List ℕ → ℕ → SectionEntry → List ℕ
  laid image start s = cond (has_contents s) (splice image start (contents_of file s.header)) image

  -- a section that fits leaves the bytes as many as they were
  length-laid :
      (image : List ℕ) (end : ℕ) (s : SectionEntry) → section_end end s ≤ length image →
      length (laid image (section_start end s) s) ≡ length image
  length-laid image end s h = by_cases (has_contents s) refl
    where
      by_cases :
          (b : Bool) → has_contents s ≡ b →
          length (cond b (splice image (section_start end s) (contents_of file s.header)) image) ≡ length image
      by_cases true e = length-splice _ _ _ (omega (arith, contents-inside file end s e))
      by_cases false e = refl

  module _ (ss : List SectionEntry) where
    pub image-begin : no_bytes ≡ image_before file ss 0
    unfolding image_before
    image-begin = refl

    pub image-next : (i : ℕ) → image_before file ss (suc i) ≡ laid (image_before file ss i) (offset_of ss i) (section_in ss i)
    unfolding image_before
    image-next i = refl

    -- so the slot's bytes are 8,192, as long as what is placed fits
    pub length_before : (n : ℕ) → end_before ss n ≤ placed_max → length (image_before file ss n) ≡ placed_max
    unfolding end_before offset_of
    length_before zero h = rw (← image-begin) length_none
    length_before (suc n) h =
        let so_far = length_before n (omega (arith, end_low (end_before ss n) (section_in ss n))) in
        rw image-next (length-laid _ (end_before ss n) (section_in ss n) (omega arith) ∙ so_far)

    pub length-image : (n : ℕ) → placement_rules ss n ≡ Ok tt → length (image_before file ss n) ≡ placed_max
    length-image n e = length_before n (end-inside ss n e)

-- ---- what is kept for the symbols

-- an array of zeros holds 0 everywhere
zeros : (k i : ℕ) → get_or {A = ℕ} (replicate k 0) i 0 ≡ 0
zeros zero i = refl
zeros (suc k) zero = refl
zeros (suc k) (suc i) = zeros k i

-- past what is filled of it, an array holds zeros
past-filled : (f : ℕ → ℕ) (m n i : ℕ) → n ≤ i → get_or (filled f 0 m n) i 0 ≡ 0
unfolding filled
past-filled f m n i h =
    let further : i ≡ length (each f 0 n) + (i - n) = omega (arith, length-each f 0 n) in
    rw further (get_or-append-add (each f 0 n) (replicate (m - n) 0) (i - n) 0 ∙ zeros (m - n) (i - n))

module _ (ss : List SectionEntry) (n : ℕ) where
  -- there is room for 64 sections
  pub length-offsets : n ≤ sections_max → length (layout_of ss n).offsets ≡ sections_max
  unfolding layout_of
  length-offsets few = length-filled _ _ _ _ few

  pub length-bounds : n ≤ sections_max → length (layout_of ss n).bounds ≡ sections_max
  unfolding layout_of
  length-bounds few = length-filled _ _ _ _ few

  module _ (i : ℕ) where
    -- of each section its offset and its bound are kept
    pub offset-kept : i < n → get_or (layout_of ss n).offsets i 0 ≡ offset_of ss i
    unfolding layout_of
    offset-kept h = get_or-filled (offset_of ss) 0 sections_max n i 0 h

    pub bound-kept : i < n → get_or (layout_of ss n).bounds i 0 ≡ bound_for (section_in ss i)
    unfolding layout_of
    bound-kept h = get_or-filled (λ j. bound_for (section_in ss j)) 0 sections_max n i 0 h

    -- no value lies below the bound of a section past the last
    pub bound-past : n ≤ i → get_or (layout_of ss n).bounds i 0 ≡ 0
    unfolding layout_of
    bound-past h = past-filled (λ j. bound_for (section_in ss j)) sections_max n i h

-- ---- the answer

-- both answers hold the verdict that they are given for
pub placement-told : (file : List ℕ) (ss : List SectionEntry) (n : ℕ) → Told (λ p. verdict_of p.answer) refused_placement (accepted_placement file ss n)
placement-told file ss n = record { refusing = λ r. refl; accepting = refl }
