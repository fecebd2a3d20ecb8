-- The front of a buffer: bytes that were written there, and bytes put behind them.
use Rattle.std.proofs.Common.{◌≡◌, ℕ, zero, suc, ◌+◌, ◌-◌, ◌<◌, ◌≤◌, min, List, [], ◌∷◌, ◌++◌, length, take, drop, set, sym, refl, ap, ◌∙◌, append_assoc, add-one, arith, length-append, length-drop, length-take, length-take-le, take-suc-set, take_at}
use lib.Seq.{take-append-add}
use Rattle.words.specs.Splice.{splice}

-- the first bytes of a buffer are those that were written over its front
pub front-written : (s new : List ℕ) (n : ℕ) → length new ≡ n → take n (splice s 0 new) ≡ new
unfolding splice
front-written s new n e = take_at new (drop (0 + length new) s) n e

-- and one byte more behind them
pub front-ended :
    (s new : List ℕ) (n b : ℕ) → length new ≡ n → n < length (splice s 0 new) → take (n + 1) (set (splice s 0 new) n b) ≡ new ++ (b ∷ [])
front-ended s new n b e room = rw (add-one n, take-suc-set (splice s 0 new) n b room, front-written s new n e)

-- bytes put behind the first `at`
pub front-grown : (s new : List ℕ) (at n : ℕ) → at ≤ length s → length new ≡ n → take (at + n) (splice s at new) ≡ take at s ++ new
unfolding splice
front-grown s new at n h e =
    let front = length-take-le at s h in
    let seam = take-append-add (take at s) (new ++ drop (at + length new) s) n in
    ap (λ (k : ℕ). take (k + n) (take at s ++ new ++ drop (at + length new) s)) (sym front)
    ∙ rw (append_assoc) (seam ∙ ap (λ t. take at s ++ t) (take_at new (drop (at + length new) s) n e))

-- at most `most` bytes of what is put behind the first `at`
pub front_kept :
    (s new : List ℕ) (at most : ℕ) → at ≤ most → at ≤ length s → take most (take at s ++ new) ≡ take at s ++ take (most - at) new
front_kept s new at most h g =
    let front = length-take-le at s g in
    let whole : most ≡ length (take at s) + (most - at) = omega arith in
    ap (λ (k : ℕ). take k (take at s ++ new)) whole ∙ take-append-add (take at s) new (most - at)

-- as many bytes as the first `most` are
pub front-fewest : (most : ℕ) (s : List ℕ) (n : ℕ) → n ≡ min most (length s) → take n s ≡ take most s
front-fewest most s n e = ap (λ (k : ℕ). take k s) (e ∙ sym (length-take most s)) ∙ as_long most s
  where
    as_long : (most : ℕ) (s : List ℕ) → take (length (take most s)) s ≡ take most s
    as_long zero s = refl
    as_long (suc most) [] = refl
    as_long (suc most) (b ∷ s) = ap (λ t. b ∷ t) (as_long most s)

-- a front of `n` bytes, put back before what was behind it
pub rejoined : (new s : List ℕ) (n : ℕ) → length new ≡ n → n ≤ length s → length (new ++ drop n s) ≡ length s
rejoined new s n e h = simp (length-append, length-drop) (omega arith)
