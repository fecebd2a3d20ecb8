-- Laws of `splice` and `part`: lengths, elements and parts of a list with part of it replaced, and splices one after the other.
use Rattle.std.proofs.Common.{◌≡◌, ℕ, zero, suc, ◌+◌, ◌-◌, ◌<◌, ◌≤◌, List, [], ◌∷◌, ◌++◌, length, get_or, take, drop, set, sym, refl, ap, ◌∙◌, append_assoc, append-nil, add-zero, arith, length-append, length-drop, take-append-drop, drop_of_length-le, length-take, length-take-le, get_or-drop, get_or-take, take-suc, take-take, drop-drop, take_at, get_or-append-add, take-add, drop_at}
use borrow.Rule.Slice.PartMut.{put_mid}
use lib.ListN.{get_or-append}
use lib.Seq.{take-length, take-append-le, drop-append-le, take-append-add, drop-append-add, set_at}
use Rattle.words.specs.Splice.{splice, part}

-- ---- a list that is made of two

module _ {A : Type 0} (p q : List A) where
  -- at the seam
  pub splice-behind : (n : ℕ) (new : List A) → length p ≡ n → splice (p ++ q) n new ≡ (p ++ new) ++ drop (length new) q
  unfolding splice
  splice-behind n new e = rw (← e, drop-append-add, take_at p q (length p) refl)

  -- within the first
  pub splice_front : (at : ℕ) (new : List A) → at + length new ≤ length p → splice (p ++ q) at new ≡ splice p at new ++ q
  unfolding splice
  splice_front at new h =
      let start : at ≤ length p = omega arith in
      rw (take-append-le at p q start, drop-append-le (at + length new) p q h) (simp append_assoc)

  -- within the second
  pub splice-second : (i : ℕ) (new : List A) → splice (p ++ q) (length p + i) new ≡ p ++ splice q i new
  unfolding splice
  splice-second i new =
      let end : length p + i + length new ≡ length p + (i + length new) = omega arith in
      rw (end, take-append-add p q i, drop-append-add p q (i + length new)) (simp append_assoc)

  part-front : (at n : ℕ) → at + n ≤ length p → part (p ++ q) at n ≡ part p at n
  unfolding part
  part-front at n h =
      let start : at ≤ length p = omega arith in
      let end : n ≤ length (drop at p) = rw length-drop (omega arith) in
      rw (drop-append-le at p q start, take-append-le n (drop at p) q end)

  -- within the second
  part_at : (at i n : ℕ) → length p ≡ at → part (p ++ q) (at + i) n ≡ part q i n
  unfolding part
  part_at at i n e = rw (← e, drop-append-add)

pub part-all : {A : Type 0} (s : List A) (n : ℕ) → length s ≡ n → part s 0 n ≡ s
unfolding part
part-all s n e = rw (← e) (take-length s)

-- a write of new to the part of k elements from at on
pub splice-written : {A : Type 0} (s new ys : List A) (at k : ℕ) → ys ≡ new → length new ≡ k → put_mid at k s ys ≡ splice s at new
unfolding splice
splice-written s new ys at k same e = rw (same, ← e, drop-drop, append_assoc)

module _ {A : Type 0} (s : List A) (at : ℕ) where
  pub length_part : (n : ℕ) → at + n ≤ length s → length (part s at n) ≡ n
  unfolding part
  length_part n h = simp (length-take, length-drop) (omega arith)

  pub get_d_part : (n i : ℕ) (d : A) → i < n → get_or (part s at n) i d ≡ get_or s (at + i) d
  unfolding part
  get_d_part n i d h = rw (get_or-take, get_or-drop)

  -- nothing, and one element more at the front
  pub splice-none : splice s at [] ≡ s
  unfolding splice
  splice-none = rw (append-nil, add-zero, take-append-drop)

  pub splice-cons : (a : A) (new : List A) → at < length s → set (splice s (suc at) new) at a ≡ splice s at (a ∷ new)
  unfolding splice
  splice-cons a new h =
      let front : length (take at s) ≡ at = length-take-le at s (omega arith) in
      let next : suc at + length new ≡ at + suc (length new) = omega arith in
      rw (take-suc s at a h, next) (simp append_assoc (set_at (take at s) _ _ a at front))

  pub splice-part : (n : ℕ) → at + n ≤ length s → splice s at (part s at n) ≡ s
  unfolding splice part
  splice-part n h = rw (length_part n h, ← take-add, take-append-drop)

splice-alike :
    {A : Type 0} (s t : List A) (at : ℕ) (new : List A) → take at s ≡ take at t → drop (at + length new) s ≡ drop (at + length new) t →
    splice s at new ≡ splice t at new
unfolding splice
splice-alike s t at new e f = rw (e, f)

module _ {A : Type 0} (s : List A) (at : ℕ) (new : List A) (fits : at ≤ length s) where
  front : length (take at s) ≡ at
  front = length-take-le at s fits

  head : length (take at s ++ new) ≡ at + length new
  head = simp length-append (omega (arith, front))

  -- what stands before the new part and what stands after it is as it was
  pub take-splice : (k : ℕ) → k ≤ at → take k (splice s at new) ≡ take k s
  unfolding splice
  take-splice k h =
      let first : k ≤ length (take at s) = omega (arith, front) in
      let both : k ≤ length (take at s ++ new) = omega (arith, head) in
      rw (take-append-le k (take at s ++ new) (drop (at + length new) s) both, take-append-le k (take at s) new first) (take-take k at s h)

  pub drop-splice : (k : ℕ) → at + length new ≤ k → drop k (splice s at new) ≡ drop k s
  unfolding splice
  drop-splice k h =
      let e : k ≡ at + length new + (k - (at + length new)) = omega arith in
      rw (e, ← drop-drop, drop_at (take at s ++ new) (drop (at + length new) s) (at + length new) head, drop-drop)

  -- the elements of the new part, and those before and after it
  pub get_or-splice-inside : (i : ℕ) (d : A) → at ≤ i → i < at + length new → get_or (splice s at new) i d ≡ get_or new (i - at) d
  unfolding splice
  get_or-splice-inside i d h g =
      let short : i < length (take at s ++ new) = omega (arith, head) in
      let place : i ≡ length (take at s) + (i - at) = omega (arith, front) in
      get_or-append (take at s ++ new) (drop (at + length new) s) d i short
      ∙ ap (λ (k : ℕ). get_or (take at s ++ new) k d) place
      ∙ get_or-append-add (take at s) new (i - at) d

  pub get_or-splice-before : (i : ℕ) (d : A) → i < at → get_or (splice s at new) i d ≡ get_or s i d
  get_or-splice-before i d h =
      sym (get_or-take (suc i) (splice s at new) i d (omega arith))
      ∙ rw (take-splice (suc i) h) (get_or-take (suc i) s i d (omega arith))

  pub get_or-splice-after : (i : ℕ) (d : A) → at + length new ≤ i → get_or (splice s at new) i d ≡ get_or s i d
  get_or-splice-after i d h =
      let first : (l : List A) → get_or l i d ≡ get_or (drop i l) 0 d = λ l. rw (get_or-drop, add-zero) in
      first (splice s at new) ∙ rw (drop-splice i h) (sym (first s))

  -- parts of the new part, before it and after it
  pub part-splice-inside : (i n : ℕ) → i + n ≤ length new → part (splice s at new) (at + i) n ≡ part new i n
  unfolding splice
  part-splice-inside i n h =
      let short : at + i + n ≤ length (take at s ++ new) = rw head (omega arith) in
      part-front (take at s ++ new) (drop (at + length new) s) (at + i) n short ∙ part_at (take at s) new at i n front

  pub part-splice-same : part (splice s at new) at (length new) ≡ new
  part-splice-same = rw (add-zero, part-all new (length new) refl) at (part-splice-inside 0 (length new) (omega arith))

  pub part-splice-before : (k n : ℕ) → k + n ≤ at → part (splice s at new) k n ≡ part s k n
  unfolding splice
  part-splice-before k n h =
      let short : k + n ≤ length (take at s) = rw front h in
      rw (append_assoc (take at s) new (drop (at + length new) s), part-front (take at s) (new ++ drop (at + length new) s) k n short)
      (sym (part-front (take at s) (drop at s) k n short) ∙ rw (take-append-drop at s))

  pub part-splice-after : (k n : ℕ) → at + length new ≤ k → part (splice s at new) k n ≡ part s k n
  unfolding part
  part-splice-after k n h = ap (take n) (drop-splice k h)

  -- a second splice over the first, and right behind it
  pub splice-splice : (other : List A) → length new ≤ length other → splice (splice s at new) at other ≡ splice s at other
  splice-splice other h =
      splice-alike _ _ at other (take-splice at (omega arith)) (drop-splice (at + length other) (omega arith))

  pub splice-append : (other : List A) → splice (splice s at new) (at + length new) other ≡ splice s at (new ++ other)
  unfolding splice
  splice-append other =
      let end : at + length (new ++ other) ≡ at + length new + length other = simp length-append (omega arith) in
      rw (drop-splice (at + length new + length other) (omega arith), take_at (take at s ++ new) (drop (at + length new) s) (at + length new) head, end)
      (simp append_assoc)

module _ {A : Type 0} (s : List A) (at : ℕ) (new : List A) where
  pub length-splice : at + length new ≤ length s → length (splice s at new) ≡ length s
  unfolding splice
  length-splice h = simp (length-append, length-take, length-drop) (omega arith)

  -- what was covered, laid back, gives the list before
  pub restored : at + length new ≤ length s → splice (splice s at new) at (part s at (length new)) ≡ s
  restored h =
      splice-splice s at new (omega arith) _ (omega (arith, length_part s at (length new) h)) ∙ splice-part s at (length new) h

-- two splices that do not overlap
apart :
    {A : Type 0} (p q : List A) (at k : ℕ) (new other : List A) → length p ≡ k → at + length new ≤ k →
    splice (splice (p ++ q) at new) k other ≡ splice (splice (p ++ q) k other) at new
apart p q at k new other e h =
    let short : at + length new ≤ length p = omega arith in
    rw (
      splice_front p q at new short,
      splice-behind (splice p at new) q k other (length-splice p at new short ∙ e),
      splice-behind p q k other e,
      append_assoc p other (drop (length other) q),
      splice_front p (other ++ drop (length other) q) at new short,
    )
    (append_assoc (splice p at new) other _)

pub splice-splice-apart :
    {A : Type 0} (s : List A) (at k : ℕ) (new other : List A) → at + length new ≤ k → k ≤ length s →
    splice (splice s at new) k other ≡ splice (splice s k other) at new
splice-splice-apart s at k new other h g =
    rw take-append-drop at (apart (take k s) (drop k s) at k new other (length-take-le k s g) h)

-- the whole of a list replaced
-- right behind the one before, whose length is known
pub splice-next :
    {A : Type 0} (s : List A) (at n : ℕ) (new other : List A) → at ≤ length s → length new ≡ n →
    splice (splice s at new) (at + n) other ≡ splice s at (new ++ other)
splice-next s at n new other fits e = rw (← e) (splice-append s at new fits other)

pub splice-whole : {A : Type 0} (s new : List A) → length new ≡ length s → splice s 0 new ≡ new
unfolding splice
splice-whole s new e =
    let end : length s ≤ 0 + length new = omega arith in
    rw (drop_of_length-le s end, append-nil new)

-- an element that is there, whatever stands for one that is not
pub get_d_default : {A : Type 0} (l : List A) (i : ℕ) (d e : A) → i < length l → get_or l i d ≡ get_or l i e
get_d_default [] i d e h = absurd (omega arith)
get_d_default (x ∷ l) zero d e h = refl
get_d_default (x ∷ l) (suc i) d e h = get_d_default l i d e (omega arith)
