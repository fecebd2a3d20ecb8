-- `words::address::fits_signed` meets its contract: nothing is shifted out of `half`, and the law of every two widths decides at each return.
use Rattle.std.proofs.Common.{◌≡◌, ℕ, ◌-◌, ◌*◌, ◌%◌, ◌^◌, ◌<◌, ◌≤◌, sym, arith}
use lib.Pow.{pow-lt}
use Rattle.words.proofs.Addresses.{low, middle, high}
use Rattle.words.proofs.address.fits_signed.Goals as goal

half : (bits : ℕ) → 1 ≤ bits → bits ≤ 64 → (1 * 2 ^ (bits - 1)) % 2 ^ 64 ≡ 2 ^ (bits - 1)
half bits some narrow = let within : 2 ^ (bits - 1) < 2 ^ 64 = pow-lt {j = 64} (omega arith) in omega arith

pub returns-then-d-half : goal.returns-then-d-half
returns-then-d-half c = let (some, narrow) = c.requires in
    sym (low _ 64 some narrow _ (omega (arith, half _ some narrow)))

pub returns-then-half-d : goal.returns-then-half-d
returns-then-half-d c = let (some, narrow) = c.requires in
    sym (high _ 64 some narrow _ (omega (arith, half _ some narrow)) (omega arith))

pub returns : goal.returns
returns c = let (some, narrow) = c.requires in
    sym (middle _ 64 some narrow _ (omega (arith, half _ some narrow)) (omega (arith, half _ some narrow)))
