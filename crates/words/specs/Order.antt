-- Byte strings compared.
use Rattle.std.specs.declared.cmp.Ordering.{Ordering}
use Rattle.std.specs.declared.cmp.Ordering.TheVariants.{Less, Equal, Greater}
use Rattle.std.specs.Prelude.{ℕ, suc, Bool, true, false, cond, ◌&&◌, List, [], ◌∷◌, ◌==◌, nat_lt}
use Rattle.words.specs.declared.bytes.Comparison.{Comparison}

-- the same length and the same bytes
unfoldable pub equal : List ℕ → List ℕ → Bool
equal [] [] = true
equal [] (y ∷ ys) = false
equal (x ∷ xs) [] = false
equal (x ∷ xs) (y ∷ ys) = x == y && equal xs ys

-- how one number stands to another
abbrev pub number_order : ℕ → ℕ → Ordering
number_order x y = cond (nat_lt x y) Less (cond (nat_lt y x) Greater Equal)

-- bytewise: the first byte that differs decides, and a proper beginning is less
unfoldable pub order_of : List ℕ → List ℕ → Ordering
order_of [] [] = Equal
order_of [] (y ∷ ys) = Less
order_of (x ∷ xs) [] = Greater
order_of (x ∷ xs) (y ∷ ys) = cond (nat_lt x y) Less (cond (nat_lt y x) Greater (order_of xs ys))

-- the orders as tests
abbrev pub is_less : Ordering → Bool
is_less Less = true
is_less Equal = false
is_less Greater = false

abbrev pub is_same : Ordering → Bool
is_same Less = false
is_same Equal = true
is_same Greater = false

-- a is less than b
unfoldable pub less : List ℕ → List ℕ → Bool
less a b = is_less (order_of a b)

-- W3: "a comparison [counts] its bytes, exactly those up to the first difference or an end". Those up to the end are those of the
-- shorter string; a byte of the one counts with the byte of the other that it is compared with, as one.
unfoldable pub compared_bytes : List ℕ → List ℕ → ℕ
compared_bytes [] b = 0
compared_bytes (x ∷ xs) [] = 0
compared_bytes (x ∷ xs) (y ∷ ys) = cond (x == y) (suc (compared_bytes xs ys)) 1

-- what comparing two byte strings answers: how the first stands to the second, and how many bytes were compared
unfoldable pub comparison : List ℕ → List ℕ → Comparison
comparison a b = record { order = order_of a b; compared = compared_bytes a b }

-- every byte is zero
unfoldable pub all_zero : List ℕ → Bool
all_zero [] = true
all_zero (b ∷ bs) = b == 0 && all_zero bs
