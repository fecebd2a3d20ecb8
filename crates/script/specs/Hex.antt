-- W2: "other bytes in lower-case hex", two digits a byte, read and written.
use Rattle.std.specs.Prelude.{ℕ, ◌+◌, ◌-◌, ◌*◌, ◌/◌, ◌%◌, Bool, cond, ◌&&◌, ◌||◌, List, [], ◌∷◌, leb, ltb, eqb, length}
use Rattle.words.specs.Find.{every}
use Rattle.script.specs.Decimal.{is_digit}
use Rattle.script.specs.Fields.{is_plain}

-- `0` to `9` and `a` to `f`
abbrev pub is_hex_digit : ℕ → Bool
is_hex_digit b = is_digit b || (leb 97 b && leb b 102)

abbrev pub hex_value : ℕ → ℕ
hex_value b = cond (leb b 57) (b - 48) (b - 87)

-- "no field empty", an even number of digits, and nothing else
unfoldable pub is_hex : List ℕ → Bool
is_hex s = is_plain s && eqb (length s % 2) 0 && every is_hex_digit s

-- the bytes that digits stand for, the higher digit first
unfoldable pub hex_bytes : List ℕ → List ℕ
hex_bytes [] = []
hex_bytes (a ∷ []) = []
hex_bytes (a ∷ b ∷ s) = (16 * hex_value a + hex_value b) ∷ hex_bytes s

-- the digit of a value below 16
abbrev pub hex_digit : ℕ → ℕ
hex_digit v = cond (ltb v 10) (48 + v) (87 + v)

-- bytes as digits
unfoldable pub in_hex : List ℕ → List ℕ
in_hex [] = []
in_hex (b ∷ s) = hex_digit (b / 16) ∷ hex_digit (b % 16) ∷ in_hex s
