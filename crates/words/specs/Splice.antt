-- A list with part of it replaced.
use Rattle.std.specs.Prelude.{ℕ, ◌+◌, List, ◌++◌, length, take, drop}

-- the list s with the elements from at on replaced by those of new
unfoldable pub splice : {A : Type 0} → List A → ℕ → List A → List A
splice s at new = take at s ++ new ++ drop (at + length new) s

-- the n elements of s from at on
unfoldable pub part : {A : Type 0} → List A → ℕ → ℕ → List A
part s at n = take n (drop at s)
