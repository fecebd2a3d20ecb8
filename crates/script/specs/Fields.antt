-- W2: "single spaces, no field empty". The fields of a line are what stands between its spaces.
use Rattle.std.specs.Prelude.{ℕ, suc, Bool, true, false, cond, not, ◌&&◌, List, [], ◌∷◌, eqb, length, get_or}
use Rattle.words.specs.Order.{equal}

abbrev pub space : ℕ
space = 32

-- a byte in front of the first field
abbrev pub in_front : ℕ → List (List ℕ) → List (List ℕ)
in_front b [] = []
in_front b (f ∷ fs) = (b ∷ f) ∷ fs

-- the fields of a line, empty ones too
unfoldable pub fields_of : List ℕ → List (List ℕ)
fields_of [] = [] ∷ []
fields_of (b ∷ s) = cond (eqb b space) ([] ∷ fields_of s) (in_front b (fields_of s))

-- field k, counted from 0; a line without it has an empty one
unfoldable pub field_of : List ℕ → ℕ → List ℕ
field_of line k = get_or (fields_of line) k []

abbrev pub is_empty : List ℕ → Bool
is_empty [] = true
is_empty (b ∷ s) = false

-- "names plain": any bytes, "no field empty"
unfoldable pub is_plain : List ℕ → Bool
is_plain s = not (is_empty s)

-- the line is the command of this word, with n fields behind it
unfoldable pub is_command : List ℕ → List ℕ → ℕ → Bool
is_command line word n = equal (field_of line 0) word && eqb (length (fields_of line)) (suc n)
