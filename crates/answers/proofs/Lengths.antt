-- The lengths of numbers and of lines, at most.
use Rattle.std.proofs.Common.{Result, Ok, Err}
use Prim.Native.Nat.{ℕ, zero, suc, ◌+◌, ◌-◌, ◌*◌, ◌/◌, ◌%◌, ◌^◌, ◌≤◌}
use mathlib.Core.Path.{◌≡◌, refl}
use mathlib.Core.Bool.{Bool, true, false, cond}
use mathlib.Core.List.{List, [], ◌∷◌, ◌++◌}
use native.Mathlib.Omega.{arith}
use lib.Dec.{eqb, ltb}
use lib.ListN.{length, take, length-append, length-take}
use Rattle.words.specs.Number.{le_at}
use Rattle.words.specs.Splice.{part}
use Rattle.words.specs.Text.{ascii}
use Rattle.records.specs.Limits.{name_max}
use Rattle.records.specs.Refusal.{number_of, Verdict}
use Rattle.records.specs.declared.refusal.Place.{Place}
use Rattle.records.specs.declared.refusal.Place.TheVariants.{Nowhere, Section, Entry, Record}
use Rattle.records.specs.declared.refusal.Refusal.{Refusal}
use Rattle.queries.specs.declared.get.Got.{Got}
use Rattle.listing.specs.List.{Buffers}
use Rattle.script.specs.Decimal.{digits_up_to, digits_max, decimal}
use Rattle.answers.specs.Answers.{bad_line, place_numbers, refusal_line, verdict_line, integer, status_word, status_line, got_line, head_line, entry_line}
use Rattle.answers.specs.Written.{line_room}

-- ---- numbers

pub length_digits : (k n : ℕ) → length (digits_up_to k n) ≤ k
unfolding digits_up_to
length_digits zero n = omega arith
length_digits (suc k) n = by_cases (ltb n 10) (length_digits k (n / 10))
  where
    by_cases :
        (small : Bool) → length (digits_up_to k (n / 10)) ≤ k →
        length (cond small [] (digits_up_to k (n / 10)) ++ ((48 + n % 10) ∷ [])) ≤ suc k
    by_cases true others = omega arith
    by_cases false others = rw length-append (omega arith)

pub length-decimal : (n : ℕ) → length (decimal n) ≤ digits_max
unfolding decimal
length-decimal n = length_digits digits_max n

pub length-integer : (x : ℕ) → length (integer x) ≤ digits_max + 1
unfolding integer
length-integer x = by_cases (ltb x (2 ^ 31))
  where
    by_cases : (positive : Bool) → length (cond positive (decimal x) (ascii "-" ++ decimal (2 ^ 32 - x))) ≤ digits_max + 1
    by_cases true = omega (arith, length-decimal x)
    by_cases false = omega (arith, length-decimal (2 ^ 32 - x))

pub length-place : (p : Place) → length (place_numbers p) ≤ 41
unfolding place_numbers
length-place Nowhere = omega (arith, length-decimal 0)
length-place (Section i) = omega (arith, length-decimal i)
length-place (Entry i e) = simp length-append (omega (arith, length-decimal i, length-decimal e))
length-place (Record r) = omega (arith, length-decimal r)

-- ---- lines

pub length-word : (status : ℕ) → length (status_word status) ≡ 7
unfolding status_word
length-word status = by_cases (eqb status 2)
  where
    by_cases : (applied : Bool) → length (cond applied (ascii "applied") (ascii "checked")) ≡ 7
    by_cases true = refl
    by_cases false = refl

pub length-status : (status result : ℕ) → length (status_line status result) ≤ 30
unfolding status_line
length-status status result = simp (length-append, length-word) (omega (arith, length-integer result))

pub length-bad : (n : ℕ) → length (bad_line n) ≤ line_room
unfolding bad_line
length-bad n = simp length-append (omega (arith, length-decimal n))

pub length-refusal : (r : Refusal) → length (refusal_line r) ≤ line_room
unfolding refusal_line
length-refusal r = simp length-append (omega (arith, length-decimal (number_of r.reason), length-place r.place))

pub length-head : (version count : ℕ) → length (head_line version count) ≤ line_room
unfolding head_line
length-head version count = simp length-append (omega (arith, length-decimal version, length-decimal count))

-- a name without its zero
pub length-name : (n : ℕ) (names : List ℕ) (at : ℕ) → length (take n (part names at name_max)) ≤ name_max
unfolding part
length-name n names at = simp length-take (omega arith)

pub length-entry : (b : Buffers) (j : ℕ) → length (entry_line b j) ≤ line_room
unfolding entry_line
length-entry b j =
    let name = length-name (le_at 4 b.lengths (4 * j) - 1) b.names (name_max * j) in
    let status = length-status (le_at 4 b.statuses (8 * j)) (le_at 4 b.statuses (8 * j + 4)) in
    simp length-append (omega arith)

-- ---- answers of one line

pub length-verdict : (v : Verdict) → length (verdict_line v) ≤ line_room
unfolding verdict_line
length-verdict (Ok _) = omega arith
length-verdict (Err r) = length-refusal r

pub length_got : (answer : Result Got Refusal) → length (got_line answer) ≤ line_room
unfolding got_line
length_got (Ok g) = omega (arith, length-status g.status g.result)
length_got (Err r) = length-refusal r
