-- The zero byte that ends a name.
use Rattle.std.specs.Prelude.{ℕ, ◌-◌, Bool, true, false, cond, List, length, ◌==◌, slice_index, Some, None, Option}
use Rattle.words.specs.Scan.{scan}

-- position i, where a zero byte stands there
abbrev pub one_zero : List ℕ → ℕ → Option ℕ → Option ℕ
one_zero s i rest = cond (slice_index s i == 0) (Some i) rest

-- the first zero byte of s at or after from
unfoldable pub zero_from : List ℕ → ℕ → Option ℕ
zero_from s from = scan (one_zero s) None from (length s - from)

abbrev pub is_found : Option ℕ → Bool
is_found (Some i) = true
is_found None = false

-- some byte of s is zero
abbrev pub has_zero : List ℕ → Bool
has_zero s = is_found (zero_from s 0)
