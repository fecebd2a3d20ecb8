-- Laws of the model's text and undo store: their lengths; an edit taken off gives text and store without it; records that no laid edit has are zero.
use Prim.Native.Nat.{ℕ, ◌+◌, ◌*◌, ◌≤◌, ◌<◌}
use mathlib.Core.Path.{◌≡◌, refl, sym, ◌∙◌}
use mathlib.Core.Logic.{◌⊎◌, inl, inr, ⊎_elim}
use mathlib.Core.Bool.{Bool, true, false, cond}
use mathlib.Core.List.{List, [], ◌∷◌}
use native.Mathlib.Nat.{add-zero}
use native.Mathlib.Omega.{arith}
use borrow.Author.Tests.{ltb-true, ltb-false, eqb-true, eqb-false}
use lib.Dec.{eqb, ltb}
use lib.ListN.{length, replicate, length-replicate, get_or-replicate}
use lib.Seq.{ext_get_or}
use Rattle.words.specs.Splice.{part, splice}
use Rattle.words.proofs.Splice.{
  length_part,
  get_d_part,
  length-splice,
  restored,
  splice-part,
  splice-splice,
  part-splice-same,
  part-splice-inside,
  part-splice-before,
  part-splice-after,
}
use Rattle.records.specs.Limits.{records_max}
use Rattle.machine.specs.Machine.{edit_max, edit_bytes}
use Rattle.memory.specs.Memory.{slot_count, undo_at, undo_size, slot_undo_size}
use Rattle.model.specs.Model.{Laid, machine}
use Rattle.model.specs.Memory.{text_with, undo_with, covered, padded}
use Rattle.invariant.specs.Sound.{All, FittingLaid, is_record, Unlaid}
use Rattle.invariant.proofs.Lists.{all-fail, found-any}
use Rattle.refinement.proofs.Counting.{all_both}

-- ---- zeros

pub part-zeros : (n at k : ℕ) → at + k ≤ n → part {A = ℕ} (replicate n 0) at k ≡ replicate k 0
part-zeros n at k h =
    let inside : at + k ≤ length (replicate {A = ℕ} n 0) = rw length-replicate h in
    let here = length_part (replicate n 0) at k inside in
    ext_get_or 0 _ _ (here ∙ sym (length-replicate k 0)) λ i i<.
    let i<k : i < k = omega arith in
    get_d_part (replicate n 0) at k i 0 i<k
    ∙ get_or-replicate n (at + i) 0 0 (omega arith)
    ∙ sym (get_or-replicate k i 0 0 i<k)

-- what stands there already
pub splice-same : {A : Type 0} (s : List A) (at n : ℕ) (new : List A) → at + n ≤ length s → part s at n ≡ new → splice s at new ≡ s
splice-same s at n new h e = rw (← e) (splice-part s at n h)

-- bytes with zeros after them
module _ (n : ℕ) (bytes : List ℕ) (short : length bytes ≤ n) where
  room : 0 + length bytes ≤ length (replicate {A = ℕ} n 0)
  room = rw length-replicate (omega arith)

  pub length-padded : length (padded n bytes) ≡ n
  length-padded = length-splice (replicate n 0) 0 bytes room ∙ length-replicate n 0

  pub part-padded : part (padded n bytes) 0 (length bytes) ≡ bytes
  part-padded = part-splice-same (replicate n 0) 0 bytes (omega arith)

-- ---- records that do not overlap

-- a laid edit's record lies before a part of the store, or behind it
abbrev Clear : ℕ → ℕ → Laid → Type 0
Clear at n x = (undo_at x.slot x.number + edit_max ≤ at) ⊎ (at + n ≤ undo_at x.slot x.number)

-- by the record's number in the store
before-or-behind :
    (at n k : ℕ) (x : Laid) → at ≡ edit_max * k → (t : Bool) → ltb (records_max * x.slot + x.number) k ≡ t →
    (k ≤ records_max * x.slot + x.number → at + n ≤ undo_at x.slot x.number) → Clear at n x
before-or-behind at n k x e true t h = inl (omega (arith, ltb-true (records_max * x.slot + x.number) k t))
before-or-behind at n k x e false t h = inr (h (ltb-false _ _ t))

module _ (len : ℕ) (slot : ℕ) where
  -- another record
  other-clear :
      (number : ℕ) → number < records_max → (x : Laid) → FittingLaid len x → is_record slot number x ≡ false → Clear (undo_at slot number) edit_max x
  other-clear number small x h e =
      let k : ℕ = records_max * slot + number in
      before-or-behind (undo_at slot number) edit_max k x refl (ltb (records_max * x.slot + x.number) k) refl (λ g. by-slot (eqb x.slot slot) refl e g)
    where
      by-slot :
          (t : Bool) → eqb x.slot slot ≡ t → cond t (eqb x.number number) false ≡ false →
          records_max * slot + number ≤ records_max * x.slot + x.number → undo_at slot number + edit_max ≤ undo_at x.slot x.number
      by-slot true t e g =
          let same : x.slot ≡ slot = eqb-true _ _ t in
          let differs : x.number ≡ number → ⊥ = eqb-false _ _ e in
          omega (arith, h.number)
      by-slot false t e g =
          let differs : x.slot ≡ slot → ⊥ = eqb-false _ _ t in
          omega (arith, h.number)

  -- a record of another slot
  slot-clear : (x : Laid) → FittingLaid len x → eqb x.slot slot ≡ false → Clear (undo_at slot 0) slot_undo_size x
  slot-clear x h e =
      let k : ℕ = records_max * slot in
      let differs : x.slot ≡ slot → ⊥ = eqb-false _ _ e in
      before-or-behind (undo_at slot 0) slot_undo_size k x (omega arith) (ltb (records_max * x.slot + x.number) k) refl (λ g. omega (arith, h.number))

-- ---- text

module _ (text : List ℕ) where
  abbrev Fitting : List Laid → Type 0
  Fitting xs = All (FittingLaid (length text)) xs

  pub text_length : (xs : List Laid) → Fitting xs → length (text_with text xs) ≡ length text
  unfolding text_with
  text_length [] h = refl
  text_length (x ∷ older) h =
      let before = text_length older h.1 in
      let fits = h.0.edit in
      length-splice (text_with text older) x.edit.offset (edit_bytes machine x.edit) (omega (arith, fits.inside, fits.bytes)) ∙ before

  module _ (x : Laid) (older : List Laid) (fit : Fitting (x ∷ older)) where
    fits-text : x.edit.offset + x.edit.length ≤ length (text_with text older)
    fits-text = omega (arith, text_length older fit.1, fit.0.edit.inside)

    pub covered-length : length (covered (text_with text older) x) ≡ x.edit.length
    covered-length = length_part (text_with text older) x.edit.offset x.edit.length fits-text

    -- the bytes that it covered, put back
    pub text-off : splice (text_with text (x ∷ older)) x.edit.offset (covered (text_with text older) x) ≡ text_with text older
    unfolding text_with
    text-off =
        let bytes = fit.0.edit.bytes in
        rw bytes at (restored (text_with text older) x.edit.offset (edit_bytes machine x.edit) (rw bytes fits-text))

  -- ---- the undo store

  record-fits : (x : Laid) → FittingLaid (length text) x → undo_at x.slot x.number + edit_max ≤ undo_size
  record-fits x h = omega (arith, h.slot, h.number)

  padded-length : (x : Laid) (older : List Laid) → Fitting (x ∷ older) → length (padded edit_max (covered (text_with text older) x)) ≡ edit_max
  padded-length x older h =
      length-padded edit_max (covered (text_with text older) x) (rw (covered-length x older h) h.0.edit.short)

  pub undo-length : (xs : List Laid) → Fitting xs → length (undo_with text xs) ≡ undo_size
  unfolding undo_with
  undo-length [] h = length-replicate {A = ℕ} undo_size 0
  undo-length (x ∷ older) h =
      let before = undo-length older h.1 in
      let new = padded-length x older h in
      length-splice (undo_with text older) (undo_at x.slot x.number) (padded edit_max (covered (text_with text older) x))
      (rw (new, before) (record-fits x h.0))
      ∙ before

  -- a part that no laid edit's record reaches into is zero
  clear_zero :
      (at n : ℕ) → at + n ≤ undo_size → (xs : List Laid) → Fitting xs → All (Clear at n) xs →
      part (undo_with text xs) at n ≡ replicate n 0
  unfolding undo_with
  clear_zero at n h [] fit clear = part-zeros undo_size at n h
  clear_zero at n h (x ∷ older) fit clear =
      let new : List ℕ = padded edit_max (covered (text_with text older) x) in
      let place : ℕ = undo_at x.slot x.number in
      let long : length new ≡ edit_max = padded-length x older fit in
      let start : place ≤ length (undo_with text older) = omega (arith, undo-length older fit.1, record-fits x fit.0) in
      ⊎_elim
      (λ g. part-splice-after (undo_with text older) place new start at n (rw long g))
      (λ g. part-splice-before (undo_with text older) place new start at n g)
      clear.0
      ∙ clear_zero at n h older fit.1 clear.1

  -- a record that is not laid is zero
  pub record-zero :
      (slot number : ℕ) → slot < slot_count → number < records_max → (xs : List Laid) → Fitting xs → Unlaid slot number xs →
      part (undo_with text xs) (undo_at slot number) edit_max ≡ replicate edit_max 0
  record-zero slot number h g xs fit none =
      clear_zero (undo_at slot number) edit_max (omega arith) xs fit
      (all_both _ _ _ (other-clear (length text) slot number g) xs fit (all-fail (is_record slot number) xs (sym (found-any (is_record slot number) 0 xs) ∙ none)))

  -- so are those of a slot of which no edit is laid
  pub slot-zero :
      (slot : ℕ) → slot < slot_count → (xs : List Laid) → Fitting xs → All (λ x. eqb x.slot slot ≡ false) xs →
      part (undo_with text xs) (undo_at slot 0) slot_undo_size ≡ replicate slot_undo_size 0
  slot-zero slot h xs fit none =
      clear_zero (undo_at slot 0) slot_undo_size (omega arith) xs fit (all_both _ _ _ (slot-clear (length text) slot) xs fit none)

  -- zeroing them changes nothing
  pub slot-zeroed :
      (slot : ℕ) → slot < slot_count → (xs : List Laid) → Fitting xs → All (λ x. eqb x.slot slot ≡ false) xs →
      splice (undo_with text xs) (undo_at slot 0) (replicate slot_undo_size 0) ≡ undo_with text xs
  slot-zeroed slot h xs fit none =
      splice-same (undo_with text xs) (undo_at slot 0) slot_undo_size _ (omega (arith, undo-length xs fit)) (slot-zero slot h xs fit none)

  -- ---- the newest edit taken off

  module _ (x : Laid) (older : List Laid) (fit : Fitting (x ∷ older)) where
    abbrev record-at : ℕ
    record-at = undo_at x.slot x.number

    abbrev new-record : List ℕ
    new-record = padded edit_max (covered (text_with text older) x)

    start : record-at ≤ length (undo_with text older)
    start = omega (arith, undo-length older fit.1, record-fits x fit.0)

    -- its record has the bytes that it covered
    pub saved : part (undo_with text (x ∷ older)) record-at x.edit.length ≡ covered (text_with text older) x
    unfolding undo_with
    saved =
        let size = covered-length x older fit in
        let short : length (covered (text_with text older) x) ≤ edit_max = rw size fit.0.edit.short in
        let inside : 0 + x.edit.length ≤ length new-record = omega (arith, padded-length x older fit, fit.0.edit.short) in
        let first = part-splice-inside (undo_with text older) record-at new-record start 0 x.edit.length inside in
        let rest = part-padded edit_max (covered (text_with text older) x) short in
        rw add-zero at first ∙ rw size at rest

    -- with its record zero, the store is that of the older ones
    pub undo-off :
        Unlaid x.slot x.number older →
        splice (undo_with text (x ∷ older)) record-at (replicate edit_max 0) ≡ undo_with text older
    unfolding undo_with
    undo-off none =
        let zeros = record-zero x.slot x.number fit.0.slot fit.0.number older fit.1 none in
        let end : record-at + edit_max ≤ length (undo_with text older) = omega (arith, undo-length older fit.1, record-fits x fit.0) in
        splice-splice (undo_with text older) record-at new-record start (replicate edit_max 0) (omega (arith, padded-length x older fit))
        ∙ splice-same (undo_with text older) record-at edit_max (replicate edit_max 0) end zeros
