-- Numbers in bytes: a number of one byte more, the bytes of a number read back, and a number in a list with part of it replaced.
-- Each law holds at every width.
use Rattle.std.proofs.Common.{◌≡◌, ℕ, zero, suc, ◌+◌, ◌-◌, ◌*◌, ◌/◌, ◌%◌, ◌^◌, ◌<◌, ◌≤◌, true, ltb, List, [], ◌∷◌, ◌++◌, length, get_or, drop, sym, refl, ap, ◌∙◌, zero-lt-suc, mul_comm, pow-suc, div-one, add-one, arith, length-drop, get_or-drop, drop-cons, take-suc, ltb-true}
use mathlib.Core.Bool.{and-eq-true_iff}
use mathlib.Core.List.{reverse-append, reverse-reverse}
use native.Mathlib.Nat.{div-div-eq-div-mul, pow-le-pow_right}
use lib.ListN.{length-reverse}
use lib.Pow.{are_bytes}
use Rattle.words.specs.Splice.{splice, part}
use Rattle.words.specs.Number.{le, be, le_at, be_at, le_bytes, be_bytes}
use Rattle.words.proofs.Splice.{part-splice-same, part-splice-before, part-splice-after}

pub le_at-none : (s : List ℕ) (at : ℕ) → le_at 0 s at ≡ 0
unfolding le_at part le
le_at-none s at = refl

pub le_at-more : (n : ℕ) (s : List ℕ) (at : ℕ) → at < length s → le_at (suc n) s at ≡ get_or s at 0 + 256 * le_at n s (suc at)
unfolding le_at part le
le_at-more n s at h = rw (drop-cons s at 0 h)

pub be_at-none : (s : List ℕ) (at : ℕ) → be_at 0 s at ≡ 0
unfolding be_at be part le
be_at-none s at = refl

pub be_at-more : (n : ℕ) (s : List ℕ) (at : ℕ) → at + n < length s → be_at (suc n) s at ≡ be_at n s at * 256 + get_or s (at + n) 0
unfolding be_at be part le
be_at-more n s at h =
    let short : n < length (drop at s) = rw length-drop (omega arith) in
    rw (take-suc (drop at s) n 0 short, reverse-append, get_or-drop) (omega arith)

-- the room that k bytes give
pub power-within : {k m : ℕ} → k ≤ m → 256 ^ k ≤ 256 ^ m
power-within h = pow-le-pow_right (zero-lt-suc 255) h

pub length-le_bytes : (n x : ℕ) → length (le_bytes n x) ≡ n
unfolding le_bytes
length-le_bytes zero x = refl
length-le_bytes (suc n) x = ap suc (length-le_bytes n (x / 256))

pub length-be_bytes : (n x : ℕ) → length (be_bytes n x) ≡ n
unfolding be_bytes
length-be_bytes n x = length-reverse (le_bytes n x) ∙ length-le_bytes n x

-- a turn of the loop that writes the lowest byte first: the next byte, and what is left
pub next-byte :
    (n i x y : ℕ) → i < n → drop i (le_bytes n x) ≡ le_bytes (n - i) y →
    (get_or (le_bytes n x) i 0 ≡ y % 256) × (drop (i + 1) (le_bytes n x) ≡ le_bytes (n - (i + 1)) (y / 256))
unfolding le_bytes
next-byte n i x y h e =
    let left : n - i ≡ suc (n - (i + 1)) = omega arith in
    let short : i < length (le_bytes n x) = omega (arith, length-le_bytes n x) in
    let cons : get_or (le_bytes n x) i 0 ∷ drop (suc i) (le_bytes n x) ≡ y % 256 ∷ le_bytes (n - (i + 1)) (y / 256) =
    sym (drop-cons (le_bytes n x) i 0 short) ∙ e ∙ ap (λ (k : ℕ). le_bytes k y) left in
    (cc, ap (λ (k : ℕ). drop k (le_bytes n x)) (add-one i) ∙ cc)

-- what is left of a number without its n lowest bytes, and without one more
pub rest_more : (n x : ℕ) → x / 256 ^ n / 256 ≡ x / 256 ^ suc n
rest_more n x = div-div-eq-div-mul x (256 ^ n) 256 ∙ rw (pow-suc 256 n)

rest-first : (n x : ℕ) → x / 256 / 256 ^ n ≡ x / 256 ^ suc n
rest-first n x = div-div-eq-div-mul x 256 (256 ^ n) ∙ rw (mul_comm 256 (256 ^ n), pow-suc 256 n)

-- one byte more, the highest one
le_bytes-more : (n x : ℕ) → le_bytes (suc n) x ≡ le_bytes n x ++ (x / 256 ^ n % 256 ∷ [])
unfolding le_bytes
le_bytes-more zero x = rw (div-one x)
le_bytes-more (suc n) x = ap (λ (l : List ℕ). x % 256 ∷ l) (le_bytes-more n (x / 256) ∙ rw (rest-first n x))

pub be_bytes-none : (x : ℕ) → be_bytes 0 x ≡ []
unfolding be_bytes le_bytes
be_bytes-none x = refl

pub be_bytes-more : (n x : ℕ) → be_bytes (suc n) x ≡ x / 256 ^ n % 256 ∷ be_bytes n x
unfolding be_bytes
be_bytes-more n x = rw (le_bytes-more n x, reverse-append)

-- a number that fits n bytes is read back from them
pub le-le_bytes : (n x : ℕ) → x < 256 ^ n → le (le_bytes n x) ≡ x
unfolding le le_bytes
le-le_bytes zero x h = omega arith
le-le_bytes (suc n) x h =
    let room : x < 256 ^ n * 256 = rw (pow-suc 256 n) at h in
    rw (le-le_bytes n (x / 256) (omega arith)) (omega arith)

pub be-be_bytes : (n x : ℕ) → x < 256 ^ n → be (be_bytes n x) ≡ x
unfolding be be_bytes
be-be_bytes n x h = rw reverse-reverse (le-le_bytes n x h)

-- the number that bytes stand for has room in them
pub le_below : (bs : List ℕ) → are_bytes bs ≡ true → le bs < 256 ^ length bs
unfolding le
le_below [] h = omega arith
le_below (b ∷ bs) h =
    let t = (and-eq-true_iff (ltb b 256) (are_bytes bs)).0 h in
    rw pow-suc (omega (arith, le_below bs t.1, ltb-true b 256 t.0))

-- ---- a number in a list with part of it replaced: in the new part, before it and after it

module _ (s : List ℕ) (at : ℕ) (new : List ℕ) (fits : at ≤ length s) where
  pub le_at-spliced : (n : ℕ) → length new ≡ n → le_at n (splice s at new) at ≡ le new
  unfolding le_at
  le_at-spliced n e = rw (← e) (ap le (part-splice-same s at new fits))

  pub be_at-spliced : (n : ℕ) → length new ≡ n → be_at n (splice s at new) at ≡ be new
  unfolding be_at
  be_at-spliced n e = rw (← e) (ap be (part-splice-same s at new fits))

  pub le_at-splice-before : (n k : ℕ) → k + n ≤ at → le_at n (splice s at new) k ≡ le_at n s k
  unfolding le_at
  le_at-splice-before n k h = ap le (part-splice-before s at new fits k n h)

  pub be_at-splice-before : (n k : ℕ) → k + n ≤ at → be_at n (splice s at new) k ≡ be_at n s k
  unfolding be_at
  be_at-splice-before n k h = ap be (part-splice-before s at new fits k n h)

  pub le_at-splice-after : (n k : ℕ) → at + length new ≤ k → le_at n (splice s at new) k ≡ le_at n s k
  unfolding le_at
  le_at-splice-after n k h = ap le (part-splice-after s at new fits k n h)

  pub be_at-splice-after : (n k : ℕ) → at + length new ≤ k → be_at n (splice s at new) k ≡ be_at n s k
  unfolding be_at
  be_at-splice-after n k h = ap be (part-splice-after s at new fits k n h)
