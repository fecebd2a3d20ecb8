-- Laws of `where_from` and `every`: a loop over the first n elements of an array, where it begins, a turn, and where it ends;
-- what a search found, and what passes where all elements do.
use Rattle.std.proofs.Common.{◌≡◌, ℕ, zero, suc, ◌+◌, ◌-◌, ◌<◌, ◌≤◌, Bool, true, false, cond, ◌&&◌, List, [], ◌∷◌, map, length, get_or, take, drop, refl, add-one, arith, drop_of_length-le, length-take-le, drop-cons, get_or-take, Some, None}
use Rattle.words.specs.Find.{where_from, first_where, every}
use Rattle.words.proofs.Tests.{both}

-- what is left of the first n elements, at element i, and at their end
module _ {A : Type 0} (l : List A) (n i : ℕ) (fits : n ≤ length l) where
  pub left_at : (d : A) → i < n → drop i (take n l) ≡ get_or l i d ∷ drop (i + 1) (take n l)
  left_at d h =
      let inside : i < length (take n l) = rw (length-take-le n l fits) h in
      rw (add-one i, drop-cons (take n l) i d inside, get_or-take n l i d h)

  pub left-none : n ≤ i → drop i (take n l) ≡ []
  left-none h =
      let past : length (take n l) ≤ i = rw (length-take-le n l fits) h in
      drop_of_length-le (take n l) past

module _ {A : Type 0} (test : A → Bool) (l : List A) (n i : ℕ) (fits : n ≤ length l) where
  pub where-turn :
      (d : A) → i < n →
      where_from test i (drop i (take n l)) ≡ cond (test (get_or l i d)) (Some i) (where_from test (i + 1) (drop (i + 1) (take n l)))
  unfolding where_from
  where-turn d h = rw (left_at l n i fits d h, add-one i)

  pub where-end : n ≤ i → where_from test i (drop i (take n l)) ≡ None
  unfolding where_from
  where-end h = rw (left-none l n i fits h)

  pub every-turn : (d : A) → i < n → every test (drop i (take n l)) ≡ (test (get_or l i d) && every test (drop (i + 1) (take n l)))
  unfolding every
  every-turn d h = rw (left_at l n i fits d h)

  pub every-end : n ≤ i → every test (drop i (take n l)) ≡ true
  unfolding every
  every-end h = rw (left-none l n i fits h)

module _ {A : Type 0} (test : A → Bool) where
  -- every element passes
  pub every-at : (xs : List A) → every test xs ≡ true → (i : ℕ) (d : A) → i < length xs → test (get_or xs i d) ≡ true
  unfolding every
  every-at [] h i d g = absurd (omega arith)
  every-at (x ∷ xs) h zero d g = (both (test x) (every test xs) h).0
  every-at (x ∷ xs) h (suc i) d g = every-at xs (both (test x) (every test xs) h).1 i d (omega arith)

  -- of the first n of a list
  pub every-taken : (l : List A) (n : ℕ) → n ≤ length l → every test (take n l) ≡ true → (i : ℕ) (d : A) → i < n → test (get_or l i d) ≡ true
  every-taken l n fits h i d g =
      let inside : i < length (take n l) = rw (length-take-le n l fits) g in
      rw (get_or-take n l i d g) at (every-at (take n l) h i d inside)

  -- what a search found, where the list's own first element has number i
  pub record Hit (i : ℕ) (xs : List A) (d : A) (e : ℕ) : Type 0 where
    pub low : i ≤ e
    pub high : e < i + length xs
    pub passes : test (get_or xs (e - i) d) ≡ true

  hit-if :
      (i : ℕ) (x : A) (xs : List A) (d : A) (e : ℕ) (t : Bool) → test x ≡ t → (where_from test (suc i) xs ≡ Some e → Hit (suc i) xs d e) →
      cond t (Some i) (where_from test (suc i) xs) ≡ Some e → Hit i (x ∷ xs) d e
  hit-if i x xs d e true p later h =
      let same : i ≡ e = cc in
      let first : e - i ≡ 0 = omega arith in
      record { low = omega arith; high = omega arith; passes = rw first p }
  hit-if i x xs d e false p later h =
      let f = later h in
      let next : e - i ≡ suc (e - suc i) = omega (arith, f.low) in
      record { low = omega (arith, f.low); high = omega (arith, f.high); passes = rw next f.passes }

  pub where-hit : (i : ℕ) (xs : List A) (d : A) (e : ℕ) → where_from test i xs ≡ Some e → Hit i xs d e
  unfolding where_from
  where-hit i [] d e h =
      let never : ◌≡◌ {A = ℕ} 0 1 = cc in
      absurd (omega arith)
  where-hit i (x ∷ xs) d e h = hit-if i x xs d e (test x) refl (where-hit (suc i) xs d e) h

  pub first-hit : (xs : List A) (d : A) (e : ℕ) → first_where test xs ≡ Some e → (e < length xs) × (test (get_or xs e d) ≡ true)
  first-hit xs d e h =
      let f = where-hit 0 xs d e h in
      let same : e - 0 ≡ e = omega arith in
      (omega (arith, f.high), rw same at f.passes)

-- a search and a test through a map
module _ {A B : Type 0} (test : B → Bool) (f : A → B) where
  pub where-map : (i : ℕ) (xs : List A) → where_from test i (map f xs) ≡ where_from (λ x. test (f x)) i xs
  unfolding where_from
  where-map i [] = refl
  where-map i (x ∷ xs) = rw (where-map (suc i) xs)

  pub every_map : (xs : List A) → every test (map f xs) ≡ every (λ x. test (f x)) xs
  unfolding every
  every_map [] = refl
  every_map (x ∷ xs) = rw (every_map xs)
