-- Lists: what holds of every element, whether some element passes a test, and how many different numbers a list can have.
use Rattle.std.proofs.Common.{Some, Option, ℕ}
use Prim.Native.Nat.{ℕ, zero, suc, ◌≤◌, ◌<◌}
use mathlib.Core.Path.{◌≡◌, refl, sym, ap, ◌∙◌, subst}
use mathlib.Core.Bool.{Bool, true, false, cond, true≢false}
use mathlib.Core.List.{List, [], ◌∷◌, ◌++◌, map}
use native.Mathlib.Omega.{arith}
use borrow.Author.Tests.{eqb-true, eqb-false, ne_eqb}
use lib.Dec.{eqb}
use lib.ListN.{length, get_or, take, drop}
use Rattle.words.specs.Find.{where_from}
use Rattle.words.specs.Name.{is_found}
use Rattle.invariant.specs.Sound.{All, Missing, Different}

-- no test both holds and fails
pub never : {A : Type 0} {t : Bool} → t ≡ true → t ≡ false → A
never holds fails = absurd (true≢false (sym holds ∙ fails))

-- what follows where a test holds and where it fails
pub by-test : {A : Type 0} (t : Bool) → (t ≡ true → A) → (t ≡ false → A) → A
by-test true holds fails = holds refl
by-test false holds fails = fails refl

-- ---- every element

module _ {A : Type 0} (P : A → Type 0) where
  pub all_append : (xs ys : List A) → All P xs → All P ys → All P (xs ++ ys)
  all_append [] ys a b = b
  all_append (x ∷ xs) ys a b = (a.0, all_append xs ys a.1 b)

  pub all_drop : (n : ℕ) (xs : List A) → All P xs → All P (drop n xs)
  all_drop zero xs a = a
  all_drop (suc n) [] a = a
  all_drop (suc n) (x ∷ xs) a = all_drop n xs a.1

  pub all_take : (n : ℕ) (xs : List A) → All P xs → All P (take n xs)
  all_take zero xs a = tt
  all_take (suc n) [] a = a
  all_take (suc n) (x ∷ xs) a = (a.0, all_take n xs a.1)

  pub all-at : (xs : List A) → All P xs → (i : ℕ) (d : A) → i < length xs → P (get_or xs i d)
  all-at [] a i d h = absurd (omega arith)
  all-at (x ∷ xs) a zero d h = a.0
  all-at (x ∷ xs) a (suc i) d h = all-at xs a.1 i d (omega arith)

  -- all elements, from each by its place
  pub all-by : (xs : List A) (d : A) → ((i : ℕ) → i < length xs → P (get_or xs i d)) → All P xs
  all-by [] d f = tt
  all-by (x ∷ xs) d f = (f 0 (omega arith), all-by xs d λ i h. f (suc i) (omega arith))

  pub all-as : (Q : A → Type 0) → ((x : A) → P x → Q x) → (xs : List A) → All P xs → All Q xs
  all-as Q f [] a = tt
  all-as Q f (x ∷ xs) a = (f x a.0, all-as Q f xs a.1)

-- of a list that a map makes
pub all_map : {A B : Type 0} (P : B → Type 0) (f : A → B) (xs : List A) → All (λ x. P (f x)) xs → All P (map f xs)
all_map P f [] a = tt
all_map P f (x ∷ xs) a = (a.0, all_map P f xs a.1)

pub all-unmap : {A B : Type 0} (P : B → Type 0) (f : A → B) (xs : List A) → All P (map f xs) → All (λ x. P (f x)) xs
all-unmap P f [] a = tt
all-unmap P f (x ∷ xs) a = (a.0, all-unmap P f xs a.1)

-- ---- some element passes a test

module _ {A : Type 0} (test : A → Bool) where
  abbrev pub any : List A → Bool
  any [] = false
  any (x ∷ xs) = cond (test x) true (any xs)

  found-if : (t : Bool) (i : ℕ) (f : Option ℕ) (b : Bool) → is_found f ≡ b → is_found (cond t (Some i) f) ≡ cond t true b
  found-if true i f b e = refl
  found-if false i f b e = e

  pub found-any : (i : ℕ) (xs : List A) → is_found (where_from test i xs) ≡ any xs
  unfolding where_from
  found-any i [] = refl
  found-any i (x ∷ xs) = found-if (test x) i _ _ (found-any (suc i) xs)

  pub none-cons : (x : A) (xs : List A) → any (x ∷ xs) ≡ false → (test x ≡ false) × (any xs ≡ false)
  none-cons x xs = by_value (test x)
    where
      by_value : (t : Bool) → cond t true (any xs) ≡ false → (t ≡ false) × (any xs ≡ false)
      by_value true h = never refl h
      by_value false h = (refl, h)

  pub any_append : (xs ys : List A) → any (xs ++ ys) ≡ cond (any xs) true (any ys)
  any_append [] ys = refl
  any_append (x ∷ xs) ys = rw (any_append xs ys) (by_value (test x))
    where
      by_value : (t : Bool) → cond t true (cond (any xs) true (any ys)) ≡ cond (cond t true (any xs)) true (any ys)
      by_value true = refl
      by_value false = refl

-- all elements fail a test that none passes
pub all-fail : {A : Type 0} (test : A → Bool) (xs : List A) → any test xs ≡ false → All (λ x. test x ≡ false) xs
all-fail test [] h = tt
all-fail test (x ∷ xs) h =
    let each = none-cons test x xs h in
    (each.0, all-fail test xs each.1)

pub none_pass : {A : Type 0} (test : A → Bool) (xs : List A) → All (λ x. test x ≡ false) xs → any test xs ≡ false
none_pass test [] a = refl
none_pass test (x ∷ xs) a = rw a.0 (none_pass test xs a.1)

-- ---- different numbers

-- whether a number is among others
abbrev pub among : ℕ → List ℕ → Bool
among x xs = any (λ y. eqb y x) xs

pub missing-among : (x : ℕ) (xs : List ℕ) → Missing x xs → among x xs ≡ false
missing-among x xs h = sym (found-any (λ y. eqb y x) 0 xs) ∙ h

pub among-missing : (x : ℕ) (xs : List ℕ) → among x xs ≡ false → Missing x xs
among-missing x xs h = found-any (λ y. eqb y x) 0 xs ∙ h

-- a number that is among others has what each of them has
pub all_among : (P : ℕ → Type 0) (x : ℕ) (xs : List ℕ) → All P xs → among x xs ≡ true → P x
all_among P x [] a h = never h refl
all_among P x (y ∷ xs) a h =
    by-test (eqb y x) (λ e. subst P (eqb-true y x e) a.0) (λ e. all_among P x xs a.1 (rw e at h))

-- the list without the first x
abbrev taken : ℕ → List ℕ → List ℕ
taken x [] = []
taken x (y ∷ ys) = cond (eqb y x) ys (y ∷ taken x ys)

length_taken : (x : ℕ) (ys : List ℕ) → among x ys ≡ true → length ys ≡ suc (length (taken x ys))
length_taken x [] h = never h refl
length_taken x (y ∷ ys) h = by-test (eqb y x) (λ e. rw e) (λ e. rw e (ap suc (length_taken x ys (rw e at h))))

among-taken : (x z : ℕ) (ys : List ℕ) → eqb z x ≡ false → among z ys ≡ true → among z (taken x ys) ≡ true
among-taken x z [] e h = h
among-taken x z (y ∷ ys) e h =
    by-test (eqb y z)
    (λ g. rw (ne_eqb y x λ f. eqb-false z x e (sym (eqb-true y z g) ∙ f), g))
    (λ g. by-test (eqb y x) (λ f. rw f (rw g at h)) (λ f. rw (f, g) (among-taken x z ys e (rw g at h))))

-- different numbers that are all among others are no more than those
pub no_more : (xs ys : List ℕ) → Different xs → All (λ x. among x ys ≡ true) xs → length xs ≤ length ys
no_more [] ys d a = omega arith
no_more (x ∷ xs) ys d a =
    let others = all-fail (λ y. eqb y x) xs (missing-among x xs d.0) in
    let less = no_more xs (taken x ys) d.1 (left xs others a.1) in
    omega (arith, length_taken x ys a.0)
  where
    left : (zs : List ℕ) → All (λ z. eqb z x ≡ false) zs → All (λ z. among z ys ≡ true) zs → All (λ z. among z (taken x ys) ≡ true) zs
    left [] e h = tt
    left (z ∷ zs) e h = (among-taken x z ys e.0 h.0, left zs e.1 h.1)

-- the numbers below n
abbrev below : ℕ → List ℕ
below zero = []
below (suc n) = n ∷ below n

length-below : (n : ℕ) → length (below n) ≡ n
length-below zero = refl
length-below (suc n) = ap suc (length-below n)

among_below : (x n : ℕ) → x < n → among x (below n) ≡ true
among_below x zero h = absurd (omega arith)
among_below x (suc n) h =
    by-test (eqb n x) (λ e. rw e) (λ e. let other : n ≡ x → ⊥ = eqb-false n x e in rw e (among_below x n (omega arith)))

-- different numbers below n are at most n
pub few-below : (n : ℕ) (xs : List ℕ) → Different xs → All (λ x. x < n) xs → length xs ≤ n
few-below n xs d a = omega (arith, no_more xs (below n) d (all-as _ _ (λ x h. among_below x n h) xs a), length-below n)
