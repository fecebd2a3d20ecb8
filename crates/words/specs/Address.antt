-- Addresses modulo 2^64, and numbers of a fixed width read as signed.
use Rattle.std.specs.Prelude.{ℕ, suc, ◌+◌, ◌-◌, ◌%◌, ◌^◌, Bool, cond, ◌&&◌, ℤ, pos, negsuc, neg_ℤ, int_le, nat_lt}

-- document 01: "Sums and differences of addresses are taken modulo 2^64"
unfoldable pub wrapping_sum : ℕ → ℕ → ℕ
wrapping_sum a b = (a + b) % 2 ^ 64

unfoldable pub wrapping_difference : ℕ → ℕ → ℕ
wrapping_difference a b = (a + (2 ^ 64 - b)) % 2 ^ 64

-- x of w bits read as signed: from 2^(w-1) on it is x - 2^w
unfoldable pub signed : ℕ → ℕ → ℤ
signed w x = cond (nat_lt x (2 ^ (w - 1))) (pos x) (negsuc (2 ^ w - suc x))

-- the lowest w bits of v
unfoldable pub stored : ℕ → ℤ → ℕ
stored w (pos n) = n % 2 ^ w
stored w (negsuc n) = 2 ^ w - suc (n % 2 ^ w)

-- document 01: "must, read as signed 64-bit, lie in -2^31 to 2^31 - 1", at every width w
unfoldable pub fits : ℕ → ℤ → Bool
fits w v = int_le (neg_ℤ (pos (2 ^ (w - 1)))) v && int_le v (pos (2 ^ (w - 1) - 1))
