-- Document 01: "Names have 2 to 128 bytes, the last zero and no other."
use Rattle.std.specs.Prelude.{ℕ, ◌-◌, Bool, false, ◌&&◌, List, leb, eqb, length, Some, None, Option}
use Rattle.words.specs.Name.{zero_from}
use Rattle.records.specs.Limits.{name_min, name_max}

-- found at this position
abbrev pub is_at : ℕ → Option ℕ → Bool
is_at i (Some j) = eqb j i
is_at i None = false

-- the first zero byte is the last byte
unfoldable pub is_name : List ℕ → Bool
is_name name = leb name_min (length name) && leb (length name) name_max && is_at (length name - 1) (zero_from name 0)
