-- Names in a string table.
use Rattle.std.specs.Prelude.{ℕ, ◌-◌, Bool, true, false, List, Some, None, Option}
use Rattle.words.specs.Splice.{part}
use Rattle.words.specs.Name.{zero_from}

pub data Name : Type 0 where
  named : List ℕ → Name
  unnamed : Name

abbrev pub is_named : Name → Bool
is_named (named name) = true
is_named unnamed = false

abbrev pub ended_at : List ℕ → ℕ → Option ℕ → Name
ended_at table offset (Some end) = named (part table offset (end - offset))
ended_at table offset None = unnamed

-- document 01: "Names end by a zero byte within their table": the bytes from the offset to the first zero
unfoldable pub name_in : List ℕ → ℕ → Name
name_in table offset = ended_at table offset (zero_from table offset)
