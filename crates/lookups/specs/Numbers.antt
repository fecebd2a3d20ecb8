-- What a lookup and a comparison answer, as numbers for C.
use Rattle.std.specs.declared.cmp.Ordering.{Ordering}
use Rattle.std.specs.declared.cmp.Ordering.TheVariants.{Less, Equal, Greater}
use Rattle.std.specs.Prelude.{ℕ, Some, None, Option}

-- 0, or document 01's 3: the name "isn't in the list"
abbrev pub found_number : Option ℕ → ℕ
found_number (Some a) = 0
found_number None = 3

-- the address that was found, else 0
abbrev pub found_address : Option ℕ → ℕ
found_address (Some a) = a
found_address None = 0

abbrev pub order_number : Ordering → ℕ
order_number Less = 0
order_number Equal = 1
order_number Greater = 2
