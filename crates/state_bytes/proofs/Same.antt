-- Bytes compared with what was read from them: a number, fields one behind the other, and rows of one width.
use Prim.Native.Nat.{ℕ, zero, suc, ◌+◌, ◌*◌, ◌/◌, ◌%◌, ◌^◌, ◌≤◌, ◌<◌}
use mathlib.Core.Path.{◌≡◌, refl, sym, ap, ◌∙◌}
use mathlib.Core.Bool.{Bool, true, false, ◌&&◌, and_assoc}
use mathlib.Core.List.{List, [], ◌∷◌, ◌++◌, map}
use native.Mathlib.Nat.{add_assoc, add-zero, zero-add, mul-suc, mul-zero}
use native.Mathlib.Omega.{arith}
use borrow.Author.Tests.{eq-eqb, eqb-true, eqb-false}
use lib.Dec.{eqb}
use lib.ListN.{length, get_or, drop}
use lib.Seq.{drop-drop, take-add}
use Rattle.words.specs.Number.{le, le_at, le_bytes}
use Rattle.words.specs.Order.{equal}
use Rattle.words.specs.Scan.{scan, each}
use Rattle.words.specs.Splice.{part}
use Rattle.words.proofs.Number.{le_at-more, le-le_bytes}
use Rattle.words.proofs.Order.{equal-same, equal-true}
use Rattle.words.proofs.Scan.{length-each, get_or-each}
use Rattle.words.proofs.Splice.{length_part}
use Rattle.state_bytes.specs.Fields.{chained, rows_at}
use Rattle.state_bytes.specs.Flags.{all_below}
use Rattle.state_bytes.proofs.Fields.{sum, Wide, length-table}
use Rattle.state_bytes.proofs.Loads.{part-more}

-- ---- parts

part-add : (b : List ℕ) (at n m : ℕ) → part b at (n + m) ≡ part b at n ++ part b (at + n) m
unfolding part
part-add b at n m = rw (take-add n m (drop at b), drop-drop n at b)

-- two strings that are made of two of the same lengths
equal-append : (x y p q : List ℕ) → length x ≡ length p → equal (x ++ y) (p ++ q) ≡ (equal x p && equal y q)
unfolding equal
equal-append [] y [] q e = refl
equal-append [] y (b ∷ p) q e = absurd (omega arith)
equal-append (a ∷ x) y [] q e = absurd (omega arith)
equal-append (a ∷ x) y (b ∷ p) q e = rw (equal-append x y p q (omega arith), and_assoc (eqb a b) (equal x p) (equal y q))

-- ---- a number

-- all elements are bytes
abbrev pub Bytes : List ℕ → Type 0
Bytes b = (i : ℕ) → get_or b i 0 < 256

-- bytes are those of the number that they stand for
stored-number : (b : List ℕ) → Bytes b → (n at : ℕ) → at + n ≤ length b → le_bytes n (le_at n b at) ≡ part b at n
unfolding le_bytes part
stored-number b known zero at h = refl
stored-number b known (suc n) at h =
    let first = get_or b at 0 in
    let rest = le_at n b (suc at) in
    let low : (first + 256 * rest) % 256 ≡ first = omega (arith, known at) in
    let high : (first + 256 * rest) / 256 ≡ rest = omega (arith, known at) in
    rw (le_at-more n b at (omega arith), low, high, part-more b at n (omega arith))
    (ap (λ l. first ∷ l) (stored-number b known n (suc at) (omega arith)))

pub kept : (b : List ℕ) → Bytes b → (n at : ℕ) → at + n ≤ length b → equal (le_bytes n (le_at n b at)) (part b at n) ≡ true
kept b known n at h = rw (stored-number b known n at h) (equal-same (part b at n))

-- another number's bytes are these exactly where it is the number that they stand for
pub number_same :
    (b : List ℕ) → Bytes b → (n at x : ℕ) → at + n ≤ length b → x < 256 ^ n → equal (le_bytes n x) (part b at n) ≡ eqb x (le_at n b at)
unfolding le_at
number_same b known n at x h fits = by_cases _ _ refl refl
  where
    by_cases :
        (t u : Bool) → equal (le_bytes n x) (part b at n) ≡ t → eqb x (le (part b at n)) ≡ u →
        equal (le_bytes n x) (part b at n) ≡ eqb x (le (part b at n))
    by_cases true true p q = p ∙ sym q
    by_cases false false p q = p ∙ sym q
    by_cases true false p q =
        absurd (eqb-false x (le (part b at n)) q (sym (le-le_bytes n x fits) ∙ ap le (equal-true (le_bytes n x) (part b at n) p)))
    by_cases false true p q =
        rw (eqb-true x (le (part b at n)) q, stored-number b known n at h)
        (equal-same (part b at n) ∙ sym (eq-eqb (le (part b at n)) (le (part b at n)) refl))

-- ---- fields

-- fields compared with the parts of these widths, the first of which stands `off` behind `at`
abbrev pub matching : List ℕ → ℕ → ℕ → List (List ℕ) → List ℕ → Bool
matching b at off [] ws = true
matching b at off (f ∷ fs) [] = true
matching b at off (f ∷ fs) (w ∷ ws) = equal f (part b (at + off) w) && matching b at (off + w) fs ws

fields-match :
    (b : List ℕ) (at off : ℕ) (fs : List (List ℕ)) (ws : List ℕ) → map length fs ≡ ws → at + off + sum ws ≤ length b →
    equal (chained fs) (part b (at + off) (sum ws)) ≡ matching b at off fs ws
unfolding chained equal part
fields-match b at off [] [] e h = refl
fields-match b at off [] (w ∷ ws) e h = cc
fields-match b at off (f ∷ fs) [] e h = cc
fields-match b at off (f ∷ fs) (w ∷ ws) e h =
    let wide : length f ≡ w = cc in
    let others : map length fs ≡ ws = cc in
    let here : length f ≡ length (part b (at + off) w) = wide ∙ sym (length_part b (at + off) w (omega arith)) in
    rw (part-add b (at + off) w (sum ws), equal-append f (chained fs) _ _ here, add_assoc at off w)
    (ap (λ t. equal f (part b (at + off) w) && t) (fields-match b at (off + w) fs ws others (omega arith)))

pub fields-same :
    (b : List ℕ) (at : ℕ) (fs : List (List ℕ)) (ws : List ℕ) → map length fs ≡ ws → at + sum ws ≤ length b →
    equal (chained fs) (part b at (sum ws)) ≡ matching b at 0 fs ws
fields-same b at fs ws e h = rw (add-zero at) at (fields-match b at 0 fs ws e (omega arith))

-- ---- rows

module _ {A : Type 0} (row : List ℕ → ℕ → A) (bytes : A → List ℕ) (width : ℕ) (b : List ℕ) (at : ℕ) where
  -- row j read and written again
  abbrev again : ℕ → List ℕ
  again j = bytes (row b (at + width * j))

  pub length-rows :
      (n : ℕ) → ((j : ℕ) → j < n → length (again j) ≡ width) → length (chained (map bytes (rows_at row width n b at))) ≡ width * n
  unfolding rows_at
  length-rows n wide =
      let value : ℕ → A = λ j. row b (at + width * j) in
      let all : length (each value 0 n) ≡ n = length-each value 0 n in
      let each-wide : Wide bytes width (each value 0 n) (row b at) (length (each value 0 n)) = λ j h.
      rw (get_or-each value 0 n j (row b at) (rw all at h), zero-add j) (wide j (rw all at h)) in
      length-table bytes width (each value 0 n) (row b at) each-wide ∙ ap (λ (m : ℕ). width * m) all

  module _ (test : ℕ → Bool) where
    -- row j lies within the bytes, is written in as many as it was read from, and in the same where the test says so
    pub record Kept (j : ℕ) : Type 0 where
      pub within : at + width * j + width ≤ length b
      pub wide : length (again j) ≡ width
      pub same : equal (again j) (part b (at + width * j) width) ≡ test j

    some_same :
        (i k : ℕ) → ((j : ℕ) → i ≤ j → j < i + k → Kept j) →
        equal (chained (map bytes (each (λ j. row b (at + width * j)) i k))) (part b (at + width * i) (width * k))
        ≡ scan (λ j rest. test j && rest) true i k
    unfolding scan chained equal part
    some_same i zero rows = rw (mul-zero width)
    some_same i (suc k) rows =
        let r = rows i (omega arith) (omega arith) in
        let size : width * suc k ≡ width + width * k = omega (arith, mul-suc width k) in
        let next : at + width * i + width ≡ at + width * suc i = omega (arith, mul-suc width i) in
        let here : length (again i) ≡ length (part b (at + width * i) width) = r.wide ∙ sym (length_part b (at + width * i) width r.within) in
        rw (size, part-add b (at + width * i) width (width * k), equal-append (again i) _ _ _ here, next, r.same)
        (ap (λ t. test i && t) (some_same (suc i) k (λ j h g. rows j (omega arith) (omega arith))))

    pub rows_same :
        (n : ℕ) → ((j : ℕ) → j < n → Kept j) →
        equal (chained (map bytes (rows_at row width n b at))) (part b at (width * n)) ≡ all_below test n
    unfolding rows_at
    rows_same n rows = rw (mul-zero width, add-zero at) at (some_same 0 n (λ j h g. rows j (omega arith)))
