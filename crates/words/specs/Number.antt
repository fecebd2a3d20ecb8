-- Numbers in bytes: one definition for every width.
use Rattle.std.specs.Prelude.{ℕ, zero, suc, ◌+◌, ◌*◌, ◌/◌, ◌%◌, List, [], ◌∷◌, reverse}
use Rattle.words.specs.Splice.{part}

-- the number that bytes stand for, the lowest byte first (little-endian)
unfoldable pub le : List ℕ → ℕ
le [] = 0
le (b ∷ bs) = b + 256 * le bs

-- the highest byte first (big-endian)
unfoldable pub be : List ℕ → ℕ
be bs = le (reverse bs)

-- the number in the n bytes of s from at on
unfoldable pub le_at : ℕ → List ℕ → ℕ → ℕ
le_at n s at = le (part s at n)

unfoldable pub be_at : ℕ → List ℕ → ℕ → ℕ
be_at n s at = be (part s at n)

-- the lowest n bytes of x
unfoldable pub le_bytes : ℕ → ℕ → List ℕ
le_bytes zero x = []
le_bytes (suc n) x = x % 256 ∷ le_bytes n (x / 256)

unfoldable pub be_bytes : ℕ → ℕ → List ℕ
be_bytes n x = reverse (le_bytes n x)
