-- Laws of a line's fields: what the byte at a place makes of the fields from there on.
use Prim.Native.Nat.{ℕ, zero, suc, ◌+◌, ◌-◌, ◌≤◌, ◌<◌}
use mathlib.Core.Path.{◌≡◌, refl, sym, ap, ◌∙◌}
use mathlib.Core.Bool.{Bool, true, false, cond, not}
use mathlib.Core.List.{List, [], ◌∷◌, ◌++◌, append-nil, append_assoc}
use native.Mathlib.Numerals.{add-one}
use native.Mathlib.Omega.{arith}
use borrow.Author.Tests.{eq-eqb, ne_eqb}
use lib.Dec.{eqb, eqb-suc-suc}
use lib.ListN.{length, get_or, take, drop, length-drop, drop_of_length-le}
use lib.Seq.{drop-cons, take-suc, get_or-drop}
use Rattle.std.specs.List.{filter}
use Rattle.words.specs.Order.{equal}
use Rattle.words.specs.Splice.{part}
use Rattle.words.proofs.Splice.{length_part}
use Rattle.script.specs.Fields.{space, in_front, fields_of, field_of, is_plain, is_command}

length-in-front : (b : ℕ) (fs : List (List ℕ)) → length (in_front b fs) ≡ length fs
length-in-front b [] = refl
length-in-front b (f ∷ fs) = refl

later-in-front : (b k : ℕ) (fs : List (List ℕ)) → get_or (in_front b fs) (suc k) [] ≡ get_or fs (suc k) []
later-in-front b k [] = refl
later-in-front b k (f ∷ fs) = refl

first-in-front : (b : ℕ) (fs : List (List ℕ)) → 0 < length fs → get_or (in_front b fs) 0 [] ≡ b ∷ get_or fs 0 []
first-in-front b [] h = absurd (omega arith)
first-in-front b (f ∷ fs) h = refl

some-field : (s : List ℕ) → 0 < length (fields_of s)
unfolding fields_of
some-field [] = omega arith
some-field (b ∷ s) = cases (eqb b space) b (fields_of s) (some-field s)
  where
    cases : (t : Bool) (b : ℕ) (fs : List (List ℕ)) → 0 < length fs → 0 < length (cond t ([] ∷ fs) (in_front b fs))
    cases true b fs h = omega arith
    cases false b fs h = rw (length-in-front b fs) h

-- a field stands behind each space, and one in front of all
pub count-fields : (s : List ℕ) → suc (length (filter (λ b. eqb b space) s)) ≡ length (fields_of s)
unfolding fields_of
count-fields [] = refl
count-fields (b ∷ s) = cases (eqb b space) b (filter (λ b. eqb b space) s) (fields_of s) (count-fields s)
  where
    cases :
        (t : Bool) (b : ℕ) (spaces : List ℕ) (fs : List (List ℕ)) → suc (length spaces) ≡ length fs →
        suc (length (cond t (b ∷ spaces) spaces)) ≡ length (cond t ([] ∷ fs) (in_front b fs))
    cases true b spaces fs h = ap suc h
    cases false b spaces fs h = h ∙ sym (length-in-front b fs)

module _ (s : List ℕ) (i : ℕ) where
  module _ (h : i < length s) where
    -- at a space a field more begins
    module _ (e : get_or s i 0 ≡ space) where
      fields-space : fields_of (drop i s) ≡ [] ∷ fields_of (drop (i + 1) s)
      unfolding fields_of
      fields-space = rw (add-one i, drop-cons s i 0 h, eq-eqb _ _ e)

      pub later-space : (k : ℕ) → field_of (drop i s) (suc k) ≡ field_of (drop (i + 1) s) k
      unfolding field_of
      later-space k = rw fields-space

      pub first-space : field_of (drop i s) 0 ≡ []
      unfolding field_of
      first-space = rw fields-space

    -- any other byte is the first field's
    module _ (e : get_or s i 0 ≡ space → ⊥) where
      fields-byte : fields_of (drop i s) ≡ in_front (get_or s i 0) (fields_of (drop (i + 1) s))
      unfolding fields_of
      fields-byte = rw (add-one i, drop-cons s i 0 h, ne_eqb _ _ e)

      pub later-byte : (k : ℕ) → field_of (drop i s) (suc k) ≡ field_of (drop (i + 1) s) (suc k)
      unfolding field_of
      later-byte k = rw fields-byte (later-in-front (get_or s i 0) k (fields_of (drop (i + 1) s)))

      pub first_byte : field_of (drop i s) 0 ≡ get_or s i 0 ∷ field_of (drop (i + 1) s) 0
      unfolding field_of
      first_byte = rw fields-byte (first-in-front (get_or s i 0) (fields_of (drop (i + 1) s)) (some-field (drop (i + 1) s)))

  -- behind the line's end there is one empty field
  pub field_end : length s ≤ i → (k : ℕ) → field_of (drop i s) k ≡ []
  unfolding field_of fields_of
  field_end h zero = rw (drop_of_length-le s h)
  field_end h (suc k) = rw (drop_of_length-le s h)

-- ---- the first field of what begins at `from`, in the bytes up to i and the first field from there on

module _ (s : List ℕ) (from : ℕ) where
  pub field-begins : part s from (from - from) ++ field_of (drop from s) 0 ≡ field_of (drop from s) 0
  unfolding part
  field-begins =
      let none : from - from ≡ 0 = omega arith in
      rw none

  module _ (i : ℕ) where
    pub field-ends :
        field_of (drop i s) 0 ≡ [] → part s from (i - from) ++ field_of (drop i s) 0 ≡ field_of (drop from s) 0 →
        part s from (i - from) ≡ field_of (drop from s) 0
    field-ends ends so_far = sym (append-nil _) ∙ ap (λ rest. part s from (i - from) ++ rest) (sym ends) ∙ so_far

    pub field-goes-on :
        from ≤ i → i < length s → field_of (drop i s) 0 ≡ get_or s i 0 ∷ field_of (drop (i + 1) s) 0 →
        part s from (i - from) ++ field_of (drop i s) 0 ≡ field_of (drop from s) 0 →
        part s from (i + 1 - from) ++ field_of (drop (i + 1) s) 0 ≡ field_of (drop from s) 0
    unfolding part
    field-goes-on low high goes so_far =
        let more : i + 1 - from ≡ suc (i - from) = omega arith in
        let inside : i - from < length (drop from s) = rw length-drop (omega arith) in
        let there : from + (i - from) ≡ i = omega arith in
        rw (more, take-suc (drop from s) (i - from) 0 inside, append_assoc, get_or-drop, there)
        (ap (λ rest. take (i - from) (drop from s) ++ rest) (sym goes) ∙ so_far)

plain-none : (from to : ℕ) → from ≡ to → not (eqb from to) ≡ is_plain []
unfolding is_plain
plain-none from to e = rw (eq-eqb from to e)

plain-some : (from to b : ℕ) (field : List ℕ) → (from ≡ to → ⊥) → not (eqb from to) ≡ is_plain (b ∷ field)
unfolding is_plain
plain-some from to b field e = rw (ne_eqb from to e)

-- a part that ends where it begins is empty, and any other is not
pub plain-part :
    (s : List ℕ) (from to : ℕ) (field : List ℕ) → from ≤ to → to ≤ length s → part s from (to - from) ≡ field →
    not (eqb from to) ≡ is_plain field
plain-part s from to [] h g e =
    let size = sym (length_part s from (to - from) (omega arith)) ∙ ap length e in
    plain-none from to (omega (arith, size))
plain-part s from to (b ∷ field) h g e =
    let size = sym (length_part s from (to - from) (omega arith)) ∙ ap length e in
    plain-some from to b field (omega (arith, size))

-- a command by its word, and then by the fields behind it
module _ (line word : List ℕ) (n : ℕ) where
  pub other_word : equal (field_of line 0) word ≡ false → is_command line word n ≡ false
  unfolding is_command
  other_word h = rw h

  pub same_word : (behind : ℕ) → equal (field_of line 0) word ≡ true → suc behind ≡ length (fields_of line) → is_command line word n ≡ eqb behind n
  unfolding is_command
  same_word behind h count = rw (h, ← count) (eqb-suc-suc behind n)
