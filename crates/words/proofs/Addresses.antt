-- Sums and differences modulo 2^64, and the range of a signed width, at every width w: `1 ≤ w` stands where a law needs it.
use Rattle.std.proofs.Common.{◌≡◌, ℕ, zero, suc, ◌+◌, ◌-◌, ◌*◌, ◌/◌, ◌%◌, ◌^◌, ◌<◌, ◌≤◌, Bool, true, false, cond, ◌&&◌, T, ltb, ◌↔◌, ℤ, pos, negsuc, neg_ℤ, ◌≤ℤ◌, sym, refl, ap, ◌∙◌, subst, mod-lt, mod-eq_of_lt, mul_comm, div-lt_iff_lt-mul, mul-le-mul_left, pow-suc, mul-suc, add-one, arith, pow_pos, pow_mono, pow-add, ltb-false, ltb-true, le-ltb, lt-ltb}
use mathlib.Core.Bool.{and-true, and-eq-true_iff}
use mathlib.Core.Logic.Iff
use native.Mathlib.Nat.{mul-sub, div-add-mod, mul-add-mod_self_left}
use lib.Signed.{mag, le_z, le_z_yes}
use lib.Dec.{leb-suc-suc}
use lib.Arith.{comp_comp}
use Rattle.words.specs.Address.{wrapping_sum, wrapping_difference, signed, stored, fits}

-- ---- addresses

pub sum_below : (a b : ℕ) → wrapping_sum a b < 2 ^ 64
unfolding wrapping_sum
sum_below a b = omega arith

pub difference_below : (a b : ℕ) → wrapping_difference a b < 2 ^ 64
unfolding wrapping_difference
difference_below a b = omega arith

pub difference-sum : (a b : ℕ) → a < 2 ^ 64 → b ≤ 2 ^ 64 → wrapping_difference (wrapping_sum a b) b ≡ a
unfolding wrapping_sum wrapping_difference
difference-sum a b ha hb = omega arith

-- ---- the range of a signed width

passed : (a b : ℤ) → (le_z a b ≡ true) ↔ (a ≤ℤ b)
passed a b = (λ e. le_z_yes (subst T (sym e) tt), λ h. held (le_z a b) h.le)
  where
    held : (t : Bool) → T t → t ≡ true
    held true h = refl
    held false h = absurd h

-- a value fits exactly where it lies in -2^(w-1) .. 2^(w-1) - 1
pub fits-range :
    (w : ℕ) (v : ℤ) → (fits w v ≡ true) ↔ (neg_ℤ (pos (2 ^ (w - 1))) ≤ℤ v) × (v ≤ℤ pos (2 ^ (w - 1) - 1))
unfolding fits
fits-range w v = Iff.trans (and-eq-true_iff _ _) (Iff.and (passed _ _) (passed _ _))

-- the same range as one bound: `mag` is n both for n and for -(n + 1)
fits-mag : (w : ℕ) (v : ℤ) → fits w v ≡ ltb (mag v) (2 ^ (w - 1))
unfolding fits
fits-mag w v = within (2 ^ (w - 1)) v (pow_pos (w - 1))
  where
    within : (half : ℕ) (v : ℤ) → 0 < half → le_z (neg_ℤ (pos half)) v && le_z v (pos (half - 1)) ≡ ltb (mag v) half
    within zero v some = absurd (omega arith)
    within (suc h) (pos n) some = let less : suc h - 1 ≡ h = omega arith in rw (less, leb-suc-suc)
    within (suc h) (negsuc n) some = and-true _ ∙ sym (leb-suc-suc n h)

inside : (w : ℕ) (v : ℤ) → mag v < 2 ^ (w - 1) → fits w v ≡ true
inside w v h = fits-mag w v ∙ lt-ltb _ _ h

outside : (w : ℕ) (v : ℤ) → 2 ^ (w - 1) ≤ mag v → fits w v ≡ false
outside w v h = fits-mag w v ∙ le-ltb _ _ h

negated : (h : ℕ) → 0 < h → neg_ℤ (pos h) ≡ negsuc (h - 1)
negated zero some = absurd (omega arith)
negated (suc h) some = ap negsuc (omega arith)

-- 2^(w-1) - 1 and -2^(w-1) fit, and 2^(w-1) and -2^(w-1) - 1 do not
pub edges :
    (w : ℕ) →
    (fits w (pos (2 ^ (w - 1) - 1)) ≡ true)
    × (fits w (neg_ℤ (pos (2 ^ (w - 1)))) ≡ true)
    × (fits w (pos (2 ^ (w - 1))) ≡ false)
    × (fits w (neg_ℤ (pos (2 ^ (w - 1) + 1))) ≡ false)
edges w =
    let half : 0 < 2 ^ (w - 1) = pow_pos (w - 1) in (
      inside w _ (omega arith),
      rw (negated _ half) (inside w _ (omega arith)),
      outside w _ (omega arith),
      rw add-one (outside w _ (omega arith)),
    )

-- ---- where a number of n bits, read as signed, lies in the range of w: below 2^(w-1), and from 2^n - 2^(w-1) on

doubled : (w : ℕ) → 1 ≤ w → 2 ^ w ≡ 2 ^ (w - 1) + 2 ^ (w - 1)
doubled zero some = absurd (omega arith)
doubled (suc w) some =
    let less : suc w - 1 ≡ w = omega arith in
    rw (less, pow-suc) (omega arith)

module _ (w n : ℕ) (some : 1 ≤ w) (narrower : w ≤ n) where
  halves : 2 ^ (w - 1) ≤ 2 ^ (n - 1)
  halves = pow_mono (omega arith)

  pub low : (x : ℕ) → x < 2 ^ (w - 1) → fits w (signed n x) ≡ true
  unfolding signed
  low x h =
      let within : x < 2 ^ (n - 1) = omega (arith, halves) in
      rw (lt-ltb x (2 ^ (n - 1)) within) (inside w (pos x) h)

  pub middle : (x : ℕ) → 2 ^ (w - 1) ≤ x → x < 2 ^ n - 2 ^ (w - 1) → fits w (signed n x) ≡ false
  unfolding signed
  middle x h g = by_cases (ltb x (2 ^ (n - 1)))
    where
      by_cases : (b : Bool) → fits w (cond b (pos x) (negsuc (2 ^ n - suc x))) ≡ false
      by_cases true = outside w _ h
      by_cases false = outside w _ (omega arith)

  pub high : (x : ℕ) → 2 ^ n - 2 ^ (w - 1) ≤ x → x < 2 ^ n → fits w (signed n x) ≡ true
  unfolding signed
  high x h g =
      let beyond : 2 ^ (n - 1) ≤ x = omega (arith, halves, doubled n (omega arith)) in
      rw (le-ltb x (2 ^ (n - 1)) beyond) (inside w _ (omega arith))

-- ---- what is stored

pub stored-below : (w : ℕ) (v : ℤ) → stored w v < 2 ^ w
unfolding stored
stored-below w (pos n) = mod-lt n (pow_pos w)
stored-below w (negsuc n) = omega (arith, pow_pos w)

pub signed-fits : (w x : ℕ) → 1 ≤ w → x < 2 ^ w → fits w (signed w x) ≡ true
unfolding signed
signed-fits w x some h = by_cases (ltb x (2 ^ (w - 1))) refl
  where
    by_cases : (b : Bool) → ltb x (2 ^ (w - 1)) ≡ b → fits w (cond b (pos x) (negsuc (2 ^ w - suc x))) ≡ true
    by_cases true e = inside w _ (ltb-true _ _ e)
    by_cases false e = inside w _ (omega (arith, doubled w some, ltb-false x (2 ^ (w - 1)) e))

read : (w : ℕ) (v : ℤ) → 1 ≤ w → mag v < 2 ^ (w - 1) → signed w (stored w v) ≡ v
unfolding signed stored
read w (pos n) some h =
    let room : n < 2 ^ w = omega (arith, doubled w some) in
    rw (mod-eq_of_lt room, lt-ltb n (2 ^ (w - 1)) h)
read w (negsuc n) some h =
    let room : n < 2 ^ w = omega (arith, doubled w some) in
    let beyond : 2 ^ (w - 1) ≤ 2 ^ w - suc n = omega (arith, doubled w some) in
    rw (mod-eq_of_lt room, le-ltb _ _ beyond, comp_comp room)

-- a value fits exactly where its w stored bits read back as the value
pub reads-back : (w : ℕ) (v : ℤ) → 1 ≤ w → (fits w v ≡ true) ↔ (signed w (stored w v) ≡ v)
reads-back w v some = (
  λ e. read w v some (ltb-true _ _ (sym (fits-mag w v) ∙ e)),
  λ e. subst (λ (u : ℤ). fits w u ≡ true) e (signed-fits w (stored w v) some (stored-below w v)),
)

complement-mod : (m k x : ℕ) → 0 < m → x < m * k → (m * k - suc x) % m ≡ m - suc (x % m)
complement-mod m k x some h =
    let short : x / m < k = (div-lt_iff_lt-mul some).1 (rw mul_comm at h) in
    let rest : m * k - suc x ≡ m * (k - suc (x / m)) + (m - suc (x % m)) =
    omega (arith, mul-sub m k (suc (x / m)), mul-suc m (x / m), mul-le-mul_left m short, div-add-mod x m, mod-lt x some) in
    rw (rest, mul-add-mod_self_left) (mod-eq_of_lt (omega arith))

-- what is stored of x, read as signed of n bits, is the lowest w bits of x
pub stored-signed : (w n x : ℕ) → w ≤ n → x < 2 ^ n → stored w (signed n x) ≡ x % 2 ^ w
unfolding signed stored
stored-signed w n x narrower h = by_cases (ltb x (2 ^ (n - 1)))
  where
    by_cases : (b : Bool) → stored w (cond b (pos x) (negsuc (2 ^ n - suc x))) ≡ x % 2 ^ w
    by_cases true = refl
    by_cases false =
        let width : 2 ^ n ≡ 2 ^ w * 2 ^ (n - w) = ap (λ (k : ℕ). 2 ^ k) (omega arith) ∙ pow-add 2 w (n - w) in
        let within : x < 2 ^ w * 2 ^ (n - w) = omega arith in
        rw (width, complement-mod (2 ^ w) (2 ^ (n - w)) x (pow_pos w) within) (comp_comp (mod-lt x (pow_pos w)))
