-- What was written is read back: a number in decimal, and bytes in hex.
use Rattle.std.proofs.Common.{Some}
use Prim.Native.Nat.{ℕ, zero, suc, ◌+◌, ◌-◌, ◌*◌, ◌/◌, ◌%◌, ◌^◌, ◌≤◌, ◌<◌}
use mathlib.Core.Path.{◌≡◌, refl, ◌∙◌}
use mathlib.Core.Bool.{Bool, true, false, cond}
use mathlib.Core.List.{List, [], ◌∷◌, ◌++◌}
use native.Mathlib.Nat.{pow-suc}
use native.Mathlib.Omega.{arith}
use borrow.Author.Tests.{ltb-true, ltb-false, le-leb, lt-leb, eq-eqb}
use lib.Dec.{ltb}
use lib.ListN.{length}
use Rattle.words.specs.Find.{every}
use Rattle.words.proofs.Tests.{both}
use Rattle.script.specs.Decimal.{is_digit, value_from, value, number_of, digits_up_to, digits_max, decimal}
use Rattle.script.specs.Fields.{is_plain}
use Rattle.script.specs.Hex.{is_hex_digit, hex_value, is_hex, hex_bytes, hex_digit, in_hex}
use Rattle.script.proofs.Digits.{hex-digit, hex-letter, other-no-hex}

-- ---- the value

-- one digit more
value-more : (v : ℕ) (s : List ℕ) (b : ℕ) → value_from v (s ++ (b ∷ [])) ≡ value_from v s * 10 + (b - 48)
unfolding value_from
value-more v [] b = refl
value-more v (a ∷ s) b = value-more (v * 10 + (a - 48)) s b

value-digits : (k n : ℕ) → n < 10 ^ k → value (digits_up_to k n) ≡ n
unfolding digits_up_to value_from
value-digits zero n h = omega arith
value-digits (suc k) n h =
    let room : n < 10 ^ k * 10 = rw (pow-suc 10 k) at h in
    by_cases (ltb n 10) refl (value-digits k (n / 10) (omega arith))
  where
    by_cases :
        (small : Bool) → ltb n 10 ≡ small → value (digits_up_to k (n / 10)) ≡ n / 10 →
        value (cond small [] (digits_up_to k (n / 10)) ++ ((48 + n % 10) ∷ [])) ≡ n
    by_cases true e others = omega (arith, ltb-true n 10 e)
    by_cases false e others = rw (value-more, others) (omega arith)

pub value-decimal : (n : ℕ) → n < 10 ^ digits_max → value (decimal n) ≡ n
unfolding decimal
value-decimal n h = value-digits digits_max n h

-- ---- digits alone

every_more : (test : ℕ → Bool) (s : List ℕ) (b : ℕ) → test b ≡ true → every test s ≡ true → every test (s ++ (b ∷ [])) ≡ true
unfolding every
every_more test [] b last first = rw last
every_more test (a ∷ s) b last first =
    let t = both (test a) (every test s) first in
    rw (t.0, every_more test s b last t.1)

digit : (d : ℕ) → d < 10 → is_digit (48 + d) ≡ true
digit d h = rw (le-leb 48 (48 + d) (omega arith), le-leb (48 + d) 57 (omega arith))

every-digits : (k n : ℕ) → every is_digit (digits_up_to k n) ≡ true
unfolding digits_up_to every
every-digits zero n = refl
every-digits (suc k) n = by_cases (ltb n 10) (every-digits k (n / 10))
  where
    by_cases :
        (small : Bool) → every is_digit (digits_up_to k (n / 10)) ≡ true →
        every is_digit (cond small [] (digits_up_to k (n / 10)) ++ ((48 + n % 10) ∷ [])) ≡ true
    by_cases true others = rw (digit (n % 10) (omega arith))
    by_cases false others = every_more is_digit (digits_up_to k (n / 10)) (48 + n % 10) (digit (n % 10) (omega arith)) others

pub every-decimal : (n : ℕ) → every is_digit (decimal n) ≡ true
unfolding decimal
every-decimal n = every-digits digits_max n

-- ---- at least one

plain_more : (s : List ℕ) (b : ℕ) → is_plain (s ++ (b ∷ [])) ≡ true
unfolding is_plain
plain_more [] b = refl
plain_more (a ∷ s) b = refl

pub plain-decimal : (n : ℕ) → is_plain (decimal n) ≡ true
unfolding decimal digits_up_to
plain-decimal n = plain_more (cond (ltb n 10) [] (digits_up_to 19 (n / 10))) (48 + n % 10)

-- ---- read back

pub read_back : (most n : ℕ) → n ≤ most → n < 10 ^ digits_max → number_of most (decimal n) ≡ Some n
unfolding number_of
read_back most n h room = rw (plain-decimal n, every-decimal n, value-decimal n room, le-leb n most h)

-- ---- hex

digit-back : (v : ℕ) → v < 16 → hex_value (hex_digit v) ≡ v
digit-back v h = by_cases (ltb v 10) refl
  where
    by_cases : (small : Bool) → ltb v 10 ≡ small → hex_value (cond small (48 + v) (87 + v)) ≡ v
    by_cases true e =
        let below = ltb-true v 10 e in
        rw (le-leb (48 + v) 57 (omega arith)) (omega arith)
    by_cases false e = rw (lt-leb (87 + v) 57 (omega arith)) (omega arith)

digit-hex : (v : ℕ) → v < 16 → is_hex_digit (hex_digit v) ≡ true
digit-hex v h = by_cases (ltb v 10) refl
  where
    by_cases : (small : Bool) → ltb v 10 ≡ small → is_hex_digit (cond small (48 + v) (87 + v)) ≡ true
    by_cases true e =
        let below = ltb-true v 10 e in
        hex-digit (48 + v) (omega arith) (omega arith)
    by_cases false e =
        let above = ltb-false v 10 e in
        hex-letter (87 + v) (omega arith) ∙ le-leb (87 + v) 102 (omega arith)

abbrev is_byte : ℕ → Bool
is_byte b = ltb b 256

-- bytes that were written in hex
pub hex-back : (s : List ℕ) → every is_byte s ≡ true → hex_bytes (in_hex s) ≡ s
unfolding hex_bytes in_hex every
hex-back [] h = refl
hex-back (b ∷ s) h =
    let bytes = both (is_byte b) (every is_byte s) h in
    let byte = ltb-true b 256 bytes.0 in
    let whole : 16 * (b / 16) + b % 16 ≡ b = omega arith in
    rw (digit-back (b / 16) (omega arith), digit-back (b % 16) (omega arith), whole, hex-back s bytes.1)

every-hex : (s : List ℕ) → every is_byte s ≡ true → every is_hex_digit (in_hex s) ≡ true
unfolding in_hex every
every-hex [] h = refl
every-hex (b ∷ s) h =
    let bytes = both (is_byte b) (every is_byte s) h in
    let byte = ltb-true b 256 bytes.0 in
    rw (digit-hex (b / 16) (omega arith), digit-hex (b % 16) (omega arith), every-hex s bytes.1)

even-hex : (s : List ℕ) → length (in_hex s) % 2 ≡ 0
unfolding in_hex
even-hex [] = refl
even-hex (b ∷ s) = omega (arith, even-hex s)

plain-hex : (b : ℕ) (s : List ℕ) → is_plain (in_hex (b ∷ s)) ≡ true
unfolding in_hex is_plain
plain-hex b s = refl

-- they are hex, where there are any
pub hex-written : (b : ℕ) (s : List ℕ) → every is_byte (b ∷ s) ≡ true → is_hex (in_hex (b ∷ s)) ≡ true
hex-written b s h = other-no-hex _ (plain-hex b s) (eq-eqb _ _ (even-hex (b ∷ s))) ∙ every-hex (b ∷ s) h
