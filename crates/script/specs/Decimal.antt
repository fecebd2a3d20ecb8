-- W2: "numbers decimal", read and written.
use Rattle.std.specs.Prelude.{ℕ, zero, suc, ◌+◌, ◌-◌, ◌*◌, ◌/◌, ◌%◌, Bool, cond, ◌&&◌, List, [], ◌∷◌, ◌++◌, leb, ltb, Some, None, Option}
use Rattle.words.specs.Find.{every}
use Rattle.script.specs.Fields.{is_plain}

abbrev pub is_digit : ℕ → Bool
is_digit b = leb 48 b && leb b 57

-- the value of digits that stand behind those of value v
unfoldable pub value_from : ℕ → List ℕ → ℕ
value_from v [] = v
value_from v (b ∷ s) = value_from (v * 10 + (b - 48)) s

abbrev pub value : List ℕ → ℕ
value s = value_from 0 s

-- digits alone, at least one, and a value of at most `most`; zeros in front are read
unfoldable pub number_of : ℕ → List ℕ → Option ℕ
number_of most s = cond (is_plain s && every is_digit s && leb (value s) most) (Some (value s)) None

-- the digits of n, at most k of them, with no zero in front of another digit
unfoldable pub digits_up_to : ℕ → ℕ → List ℕ
digits_up_to zero n = []
digits_up_to (suc k) n = cond (ltb n 10) [] (digits_up_to k (n / 10)) ++ ((48 + n % 10) ∷ [])

-- the digits of a number below 2^64, which has at most 20
abbrev pub digits_max : ℕ
digits_max = 20

unfoldable pub decimal : ℕ → List ℕ
decimal n = digits_up_to digits_max n
