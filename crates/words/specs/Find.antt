-- Elements of a list by a test: the first that passes it, and whether all do.
use Rattle.std.specs.Prelude.{ℕ, suc, Bool, true, cond, ◌&&◌, List, [], ◌∷◌, Some, None, Option}

-- the number of the first element that passes, where the list's own first has number i
unfoldable pub where_from : {A : Type 0} → (A → Bool) → ℕ → List A → Option ℕ
where_from test i [] = None
where_from test i (x ∷ xs) = cond (test x) (Some i) (where_from test (suc i) xs)

abbrev pub first_where : {A : Type 0} → (A → Bool) → List A → Option ℕ
first_where test xs = where_from test 0 xs

-- every element passes
unfoldable pub every : {A : Type 0} → (A → Bool) → List A → Bool
every test [] = true
every test (x ∷ xs) = test x && every test xs
