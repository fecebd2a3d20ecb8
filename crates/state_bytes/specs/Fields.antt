-- Byte strings one behind the other, and rows of one width read from them.
use Rattle.std.specs.Prelude.{ℕ, ◌+◌, ◌*◌, List, [], ◌∷◌, ◌++◌}
use Rattle.words.specs.Scan.{each}

unfoldable pub chained : List (List ℕ) → List ℕ
chained [] = []
chained (field ∷ fields) = field ++ chained fields

-- n rows of this width, from a place on, each read by `row`
unfoldable pub rows_at : {A : Type 0} → (List ℕ → ℕ → A) → ℕ → ℕ → List ℕ → ℕ → List A
rows_at row width n b at = each (λ i. row b (at + width * i)) 0 n
