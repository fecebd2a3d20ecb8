-- What the loops and copies that load the state give: a part of the bytes copied over an array, the bytes of a part one by one, and
-- rows of one width read into an array.
use Prim.Native.Nat.{ℕ, zero, suc, ◌+◌, ◌*◌, ◌≤◌, ◌<◌}
use mathlib.Core.Path.{◌≡◌, refl, sym, ap, ◌∙◌}
use mathlib.Core.Bool.{Bool, true, ◌&&◌}
use mathlib.Core.List.{List, [], ◌∷◌, map}
use native.Mathlib.Nat.{add-zero}
use native.Mathlib.Numerals.{add-one}
use native.Mathlib.Omega.{arith}
use lib.ListN.{length, get_or, replicate, length-replicate}
use lib.Seq.{drop-cons}
use Rattle.std.specs.List.{list_all, range_with_len}
use Rattle.words.specs.Find.{every}
use Rattle.words.specs.Scan.{scan, each, filled}
use Rattle.words.specs.Splice.{part, splice}
use Rattle.words.proofs.Scan.{filled-whole}
use Rattle.words.proofs.Splice.{splice-whole, length_part}
use Rattle.state_bytes.specs.Fields.{rows_at}

-- a part of the bytes over the whole of an array
pub copied-part : (b : List ℕ) (at n z : ℕ) → at + n ≤ length b → splice (replicate n z) 0 (part b at n) ≡ part b at n
copied-part b at n z h = splice-whole (replicate n z) (part b at n) (length_part b at n h ∙ sym (length-replicate n z))

-- the first byte of a part
pub part-more : (b : List ℕ) (at n : ℕ) → at < length b → part b at (suc n) ≡ get_or b at 0 ∷ part b (suc at) n
unfolding part
part-more b at n h = rw (drop-cons b at 0 h)

-- a test of every byte, as std says it of an iterator's `all`
pub every-list_all : (test : ℕ → Bool) (s : List ℕ) → every test s ≡ list_all test s
unfolding every
every-list_all test [] = refl
every-list_all test (b ∷ s) = rw (every-list_all test s)

-- a test of every number
pub below-list_all : (test : ℕ → Bool) (i n : ℕ) → scan (λ j rest. test j && rest) true i n ≡ list_all test (range_with_len i n)
unfolding scan
below-list_all test i zero = refl
below-list_all test i (suc n) = rw (add-one i, below-list_all test (suc i) n)

-- the bytes of a part, each through f
each-of-part :
    {A : Type 0} (f : ℕ → A) (b : List ℕ) (at i n : ℕ) → at + i + n ≤ length b →
    each (λ j. f (get_or b (at + j) 0)) i n ≡ map f (part b (at + i) n)
unfolding scan part
each-of-part f b at i zero h = refl
each-of-part f b at i (suc n) h =
    let next : suc (at + i) ≡ at + suc i = omega arith in
    rw (part-more b (at + i) n (omega arith), next) (ap (λ l. f (get_or b (at + i) 0) ∷ l) (each-of-part f b at (suc i) n (omega arith)))

-- an array filled with the bytes of a part, each through f
pub filled-part :
    {A : Type 0} (f : ℕ → A) (z : A) (b : List ℕ) (at n : ℕ) → at + n ≤ length b →
    filled (λ j. f (get_or b (at + j) 0)) z n n ≡ map f (part b at n)
filled-part f z b at n h =
    filled-whole _ z n ∙ each-of-part f b at 0 n (omega arith) ∙ rw (add-zero at)

-- an array filled with rows
pub filled-rows :
    {A : Type 0} (row : List ℕ → ℕ → A) (width n : ℕ) (b : List ℕ) (at : ℕ) (z : A) →
    filled (λ i. row b (at + width * i)) z n n ≡ rows_at row width n b at
unfolding rows_at
filled-rows row width n b at z = filled-whole _ z n
