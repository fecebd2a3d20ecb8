-- Laws of digits: a decimal number byte by byte, and hex digits two by two.
use Rattle.std.proofs.Common.{Some, None}
use Prim.Native.Nat.{ℕ, zero, suc, ◌+◌, ◌-◌, ◌*◌, ◌/◌, ◌%◌, ◌≤◌, ◌<◌}
use mathlib.Core.Path.{◌≡◌, refl, sym, ◌∙◌}
use mathlib.Core.Bool.{Bool, true, false, ◌&&◌, ◌||◌}
use mathlib.Core.List.{List, [], ◌∷◌}
use native.Mathlib.Numerals.{add-one}
use native.Mathlib.Omega.{arith}
use borrow.Author.Tests.{leb-true, le-leb, lt-leb}
use lib.Dec.{leb, eqb}
use lib.ListN.{length, get_or, take, drop, drop_of_length-le}
use lib.Seq.{drop-cons, length-take-le, get_or-take}
use Rattle.std.specs.List.{list_all}
use Rattle.words.specs.Find.{every}
use Rattle.words.proofs.Tests.{both, three}
use Rattle.script.specs.Decimal.{is_digit, value_from, value, number_of}
use Rattle.script.specs.Fields.{is_plain}
use Rattle.script.specs.Hex.{is_hex_digit, hex_value, is_hex, hex_bytes}

and-false : (t : Bool) → (t && false) ≡ false
and-false true = refl
and-false false = refl

or-false : (t : Bool) → (t || false) ≡ t
or-false true = refl
or-false false = refl

-- a string with a byte is plain
pub some-plain : (s : List ℕ) → 0 < length s → is_plain s ≡ true
unfolding is_plain
some-plain [] h = absurd (omega arith)
some-plain (b ∷ s) h = refl

pub none-plain : (s : List ℕ) → length s ≡ 0 → is_plain s ≡ false
unfolding is_plain
none-plain [] h = refl
none-plain (b ∷ s) h = absurd (omega arith)

-- all bytes from i on: the one at i, and those behind it
module _ (test : ℕ → Bool) (s : List ℕ) (i : ℕ) where
  pub every-from : i < length s → every test (drop i s) ≡ (test (get_or s i 0) && every test (drop (i + 1) s))
  unfolding every
  every-from h = rw (add-one i, drop-cons s i 0 h)

  pub every-behind : length s ≤ i → every test (drop i s) ≡ true
  unfolding every
  every-behind h = rw (drop_of_length-le s h)

  -- one that fails
  pub every-stops : i < length s → every test s ≡ every test (drop i s) → test (get_or s i 0) ≡ false → every test s ≡ false
  every-stops h so_far fails = so_far ∙ every-from h ∙ rw fails

  -- one that passes
  pub every-goes-on :
      i < length s → every test s ≡ every test (drop i s) → test (get_or s i 0) ≡ true → every test s ≡ every test (drop (i + 1) s)
  every-goes-on h so_far passes = so_far ∙ every-from h ∙ rw passes

-- as std says it of an iterator's `all`
pub every-list_all : (test : ℕ → Bool) (s : List ℕ) → every test s ≡ list_all test s
unfolding every
every-list_all test [] = refl
every-list_all test (b ∷ s) = rw (every-list_all test s)

-- ---- decimal

pub digit_low : (b : ℕ) → b < 48 → is_digit b ≡ false
digit_low b h = rw (lt-leb 48 b h)

pub digit-high : (b : ℕ) → 57 < b → is_digit b ≡ false
digit-high b h =
    let low : leb 48 b ≡ true = le-leb 48 b (omega arith) in
    rw (low, lt-leb b 57 h)

pub digit-between : (b : ℕ) → 48 ≤ b → b ≤ 57 → is_digit b ≡ true
digit-between b h g = rw (le-leb 48 b h, le-leb b 57 g)

module _ (s : List ℕ) (i v : ℕ) where
  pub value-turn : i < length s → value_from v (drop i s) ≡ value_from (v * 10 + (get_or s i 0 - 48)) (drop (i + 1) s)
  unfolding value_from
  value-turn h = rw (add-one i, drop-cons s i 0 h)

  pub value-end : length s ≤ i → value_from v (drop i s) ≡ v
  unfolding value_from
  value-end h = rw (drop_of_length-le s h)

-- more digits make no number smaller
pub value_grows : (v : ℕ) (s : List ℕ) → v ≤ value_from v s
unfolding value_from
value_grows v [] = omega arith
value_grows v (b ∷ s) = omega (arith, value_grows (v * 10 + (b - 48)) s)

module _ (most : ℕ) (s : List ℕ) where
  pub empty-unreadable : is_plain s ≡ false → number_of most s ≡ None
  unfolding number_of
  empty-unreadable h = rw h

  pub other-unreadable : is_plain s ≡ true → every is_digit s ≡ false → number_of most s ≡ None
  unfolding number_of
  other-unreadable some h = rw (some, h)

  pub large-unreadable : most < value s → number_of most s ≡ None
  unfolding number_of
  large-unreadable h = rw (lt-leb (value s) most h, and-false (is_plain s && every is_digit s))

  pub number_read : is_plain s ≡ true → every is_digit s ≡ true → value s ≤ most → number_of most s ≡ Some (value s)
  unfolding number_of
  number_read some digits h = rw (some, digits, le-leb (value s) most h)

-- ---- hex

pub hex-low : (b : ℕ) → b < 48 → is_hex_digit b ≡ false
hex-low b h =
    let letter : leb 97 b ≡ false = lt-leb 97 b (omega arith) in
    rw (lt-leb 48 b h, letter)

pub hex-digit : (b : ℕ) → 48 ≤ b → b ≤ 57 → is_hex_digit b ≡ true
hex-digit b h g = rw (le-leb 48 b h, le-leb b 57 g)

pub hex-between : (b : ℕ) → 57 < b → b < 97 → is_hex_digit b ≡ false
hex-between b h g = rw (digit-high b h, lt-leb 97 b g)

pub hex-letter : (b : ℕ) → 97 ≤ b → is_hex_digit b ≡ leb b 102
hex-letter b h =
    let other : is_digit b ≡ false = digit-high b (omega arith) in
    rw (other, le-leb 97 b h)

-- a digit by its value: up to 57 a decimal one, else a letter
pub digit-begins : (b : ℕ) → is_hex_digit b ≡ true → b ≤ 57 → 48 ≤ b
digit-begins b h g =
    let no-letter : leb 97 b ≡ false = lt-leb 97 b (omega arith) in
    leb-true 48 b (both (leb 48 b) (leb b 57) (sym (or-false (leb 48 b && leb b 57)) ∙ rw no-letter at h)).0

pub letter-bounds : (b : ℕ) → is_hex_digit b ≡ true → 57 < b → (97 ≤ b) × (b ≤ 102)
letter-bounds b h g =
    let letter = both (leb 97 b) (leb b 102) (rw (digit-high b g) at h) in
    (leb-true 97 b letter.0, leb-true b 102 letter.1)

pub odd-no-hex : (s : List ℕ) → is_plain s ≡ true → eqb (length s % 2) 0 ≡ false → is_hex s ≡ false
unfolding is_hex
odd-no-hex s some h = rw (some, h)

pub empty-no-hex : (s : List ℕ) → is_plain s ≡ false → is_hex s ≡ false
unfolding is_hex
empty-no-hex s h = rw h

pub other-no-hex : (s : List ℕ) → is_plain s ≡ true → eqb (length s % 2) 0 ≡ true → is_hex s ≡ every is_hex_digit s
unfolding is_hex
other-no-hex s some h = rw (some, h)

pub hex-digits : (s : List ℕ) → is_hex s ≡ true → every is_hex_digit s ≡ true
unfolding is_hex
hex-digits s h = (three (is_plain s) (eqb (length s % 2) 0) (every is_hex_digit s) h).2

-- byte i is made of digits 2 i and 2 i + 1
pub hex-count : (s : List ℕ) (n : ℕ) → 2 * n ≤ length s → n ≤ length (hex_bytes s)
unfolding hex_bytes
hex-count s zero h = omega arith
hex-count [] (suc n) h = absurd (omega arith)
hex-count (a ∷ []) (suc n) h = absurd (omega arith)
hex-count (a ∷ b ∷ s) (suc n) h = omega (arith, hex-count s n (omega arith))

pub hex-byte :
    (s : List ℕ) (i : ℕ) → 2 * i + 1 < length s → get_or (hex_bytes s) i 0 ≡ 16 * hex_value (get_or s (2 * i) 0) + hex_value (get_or s (2 * i + 1) 0)
unfolding hex_bytes
hex-byte [] i h = absurd (omega arith)
hex-byte (a ∷ []) i h = absurd (omega arith)
hex-byte (a ∷ b ∷ s) zero h = refl
hex-byte (a ∷ b ∷ s) (suc i) h =
    let high : 2 * suc i ≡ suc (suc (2 * i)) = omega arith in
    let low : 2 * suc i + 1 ≡ suc (suc (2 * i + 1)) = omega arith in
    rw (low, high) (hex-byte s i (omega arith))

-- of the first n bytes
pub taken-size : (s : List ℕ) (n : ℕ) → 2 * n ≤ length s → length (take n (hex_bytes s)) ≡ n
taken-size s n h = length-take-le n (hex_bytes s) (hex-count s n h)

pub taken-byte :
    (s : List ℕ) (n i : ℕ) → i < n → 2 * n ≤ length s →
    get_or (take n (hex_bytes s)) i 0 ≡ 16 * hex_value (get_or s (2 * i) 0) + hex_value (get_or s (2 * i + 1) 0)
taken-byte s n i h g = get_or-take n (hex_bytes s) i 0 h ∙ hex-byte s i (omega arith)

-- all bytes
pub hex-all : (s : List ℕ) (n : ℕ) → n ≡ length s / 2 → take n (hex_bytes s) ≡ hex_bytes s
unfolding hex_bytes
hex-all [] n e =
    let none : n ≡ 0 = omega arith in
    rw none
hex-all (a ∷ []) n e =
    let none : n ≡ 0 = omega arith in
    rw none
hex-all (a ∷ b ∷ s) n e =
    let more : n ≡ suc (length s / 2) = omega arith in
    rw (more, hex-all s (length s / 2) refl)
