-- Laws of `equal`, `order_of` and `comparison`: equal is the test whether two byte strings are the same, and whether `order_of` answers
-- Same; less is a strict order; and a comparison goes on from byte to byte up to its answer.
use Rattle.std.proofs.Common.{◌≡◌, ℕ, suc, ◌+◌, ◌<◌, ◌≤◌, Bool, true, false, ◌&&◌, eqb, ltb, ◌⊎◌, List, [], ◌∷◌, length, get_or, drop, min, refl, ap, ◌∙◌, ap₂, inl, inr, ⊎_elim, add-one, arith, drop_of_length-le, drop-cons, ltb-false, ltb-true, le-ltb, lt-ltb, eq-eqb, ne_eqb, eqb-true, Less, Equal, Greater, Ordering}
use mathlib.Core.Bool.{and-false, and-eq-true_iff, false≢true}
use Rattle.words.specs.declared.bytes.Comparison.{Comparison}
use Rattle.words.specs.Order.{equal, number_order, order_of, is_same, less, compared_bytes, comparison, all_zero}

pub equal-same : (a : List ℕ) → equal a a ≡ true
unfolding equal
equal-same [] = refl
equal-same (x ∷ xs) = rw (eq-eqb x x refl) (equal-same xs)

pub equal-true : (a b : List ℕ) → equal a b ≡ true → a ≡ b
unfolding equal
equal-true [] [] h = refl
equal-true [] (y ∷ ys) h = cc
equal-true (x ∷ xs) [] h = cc
equal-true (x ∷ xs) (y ∷ ys) h =
    let t = (and-eq-true_iff (eqb x y) (equal xs ys)).0 h in
    ap₂ ◌∷◌ (eqb-true x y t.0) (equal-true xs ys t.1)

pub equal-lengths : (a b : List ℕ) → (length a ≡ length b → ⊥) → equal a b ≡ false
unfolding equal
equal-lengths [] [] h = absurd (h refl)
equal-lengths [] (y ∷ ys) h = refl
equal-lengths (x ∷ xs) [] h = refl
equal-lengths (x ∷ xs) (y ∷ ys) h = simp (equal-lengths xs ys (λ e. h (ap suc e)), and-false)

-- ---- the first bytes decide, or they are the same

by_order :
    {P : Type 0} (x y : ℕ) (t u : Bool) → ltb x y ≡ t → ltb y x ≡ u →
    (x < y → P) → (y < x → P) → (x ≡ y → P) → P
by_order x y true u p q less greater same = less (ltb-true x y p)
by_order x y false true p q less greater same = greater (ltb-true y x q)
by_order x y false false p q less greater same = same (omega (arith, ltb-false x y p, ltb-false y x q))

module _ (x y : ℕ) (xs ys : List ℕ) where
  first-less : x < y → order_of (x ∷ xs) (y ∷ ys) ≡ Less
  unfolding order_of
  first-less h = rw (lt-ltb x y h)

  first-greater : y < x → order_of (x ∷ xs) (y ∷ ys) ≡ Greater
  unfolding order_of
  first-greater h = rw (le-ltb x y (omega arith), lt-ltb y x h)

  first-same : x ≡ y → order_of (x ∷ xs) (y ∷ ys) ≡ order_of xs ys
  unfolding order_of
  first-same e = rw (le-ltb x y (omega arith), le-ltb y x (omega arith))

  first-differs : (x ≡ y → ⊥) → order_of (x ∷ xs) (y ∷ ys) ≡ number_order x y
  first-differs h =
      by_order x y _ _ refl refl
      (λ l. rw (first-less l, lt-ltb x y l))
      (λ g. rw (first-greater g, le-ltb x y (omega arith), lt-ltb y x g))
      (λ e. absurd (h e))

  compared-first : (x ≡ y → ⊥) → compared_bytes (x ∷ xs) (y ∷ ys) ≡ 1
  unfolding compared_bytes
  compared-first h = rw (ne_eqb x y h)

  compared-rest : x ≡ y → compared_bytes (x ∷ xs) (y ∷ ys) ≡ suc (compared_bytes xs ys)
  unfolding compared_bytes
  compared-rest e = rw (eq-eqb x y e)

  less-cases : less (x ∷ xs) (y ∷ ys) ≡ true → (x < y) ⊎ ((x ≡ y) × (less xs ys ≡ true))
  unfolding less
  less-cases h =
      by_order x y _ _ refl refl
      inl
      (λ g. absurd (false≢true (rw (first-greater g) at h)))
      (λ e. inr (e, rw (first-same e) at h))

  less-first : x < y → less (x ∷ xs) (y ∷ ys) ≡ true
  unfolding less
  less-first h = rw (first-less h)

  less-rest : x ≡ y → less xs ys ≡ true → less (x ∷ xs) (y ∷ ys) ≡ true
  unfolding less
  less-rest e h = rw (first-same e) h

pub order_same : (a : List ℕ) → order_of a a ≡ Equal
unfolding order_of
order_same [] = refl
order_same (x ∷ xs) = first-same x x xs xs refl ∙ order_same xs

pub less-irreflexive : (a : List ℕ) → less a a ≡ false
unfolding less
less-irreflexive a = rw (order_same a)

pub less-transitive : (a b c : List ℕ) → less a b ≡ true → less b c ≡ true → less a c ≡ true
unfolding less order_of
less-transitive [] [] c h g = absurd (false≢true h)
less-transitive [] (y ∷ ys) [] h g = absurd (false≢true g)
less-transitive [] (y ∷ ys) (z ∷ zs) h g = refl
less-transitive (x ∷ xs) [] c h g = absurd (false≢true h)
less-transitive (x ∷ xs) (y ∷ ys) [] h g = absurd (false≢true g)
less-transitive (x ∷ xs) (y ∷ ys) (z ∷ zs) h g =
    ⊎_elim
    (λ p. ⊎_elim (λ q. less-first x z xs zs (omega arith)) (λ q. less-first x z xs zs (omega arith)) (less-cases y z ys zs g))
    (λ p. ⊎_elim (λ q. less-first x z xs zs (omega arith)) (λ q. less-rest x z xs zs (omega arith) (less-transitive xs ys zs p.1 q.1)) (less-cases y z ys zs g))
    (less-cases x y xs ys h)

-- "equal" is one of the answers of the order
pub equal-order : (a b : List ℕ) → equal a b ≡ is_same (order_of a b)
unfolding equal order_of
equal-order [] [] = refl
equal-order [] (y ∷ ys) = refl
equal-order (x ∷ xs) [] = refl
equal-order (x ∷ xs) (y ∷ ys) =
    by_order x y _ _ refl refl
    (λ l. rw (first-less x y xs ys l, ne_eqb x y (λ e. omega arith)))
    (λ g. rw (first-greater x y xs ys g, ne_eqb x y (λ e. omega arith)))
    (λ e. rw (first-same x y xs ys e, eq-eqb x y e) (equal-order xs ys))

-- ---- a turn of a loop that compares, and where one string has ended

-- the order that a comparison answers
pub compared-order : (a b : List ℕ) {r : Comparison} → r ≡ comparison a b → r.order ≡ order_of a b
unfolding comparison
compared-order a b e = ap (λ (r : Comparison). r.order) e

-- an answer, and the one that is left to find where i bytes have been compared
abbrev pub answer : Ordering → ℕ → Comparison
answer o n = record { order = o; compared = n }

abbrev pub after : List ℕ → List ℕ → ℕ → Comparison
after a b i = answer (order_of (drop i a) (drop i b)) (i + compared_bytes (drop i a) (drop i b))

pub compared-begin : (a b : List ℕ) → comparison a b ≡ after a b 0
unfolding comparison
compared-begin a b = ap (answer (order_of a b)) (omega arith)

module _ (a b : List ℕ) (i : ℕ) where
  pub equal-at :
      i < length a → i < length b →
      equal (drop i a) (drop i b) ≡ (eqb (get_or a i 0) (get_or b i 0) && equal (drop (i + 1) a) (drop (i + 1) b))
  unfolding equal
  equal-at ha hb = rw (add-one i, drop-cons a i 0 ha, drop-cons b i 0 hb)

  pub compared-differs :
      i < length a → i < length b → (get_or a i 0 ≡ get_or b i 0 → ⊥) →
      after a b i ≡ answer (number_order (get_or a i 0) (get_or b i 0)) (i + 1)
  compared-differs ha hb h =
      let n : compared_bytes (drop i a) (drop i b) ≡ 1 =
      rw (drop-cons a i 0 ha, drop-cons b i 0 hb) (compared-first _ _ _ _ h) in
      ap₂ answer (rw (drop-cons a i 0 ha, drop-cons b i 0 hb) (first-differs _ _ _ _ h)) (omega (arith, n))

  pub compared-further : i < length a → i < length b → get_or a i 0 ≡ get_or b i 0 → after a b i ≡ after a b (i + 1)
  compared-further ha hb e =
      let n : compared_bytes (drop i a) (drop i b) ≡ suc (compared_bytes (drop (i + 1) a) (drop (i + 1) b)) =
      rw (add-one i, drop-cons a i 0 ha, drop-cons b i 0 hb) (compared-rest _ _ _ _ e) in
      ap₂ answer
      (rw (add-one i, drop-cons a i 0 ha, drop-cons b i 0 hb) (first-same _ _ _ _ e))
      (omega (arith, n))

  none_more : (o : Ordering) → answer o (i + 0) ≡ answer o i
  none_more o = ap (answer o) (omega arith)

  pub compared-longer : i < length a → length b ≤ i → after a b i ≡ answer Greater i
  unfolding order_of compared_bytes
  compared-longer ha hb = rw (drop-cons a i 0 ha, drop_of_length-le b hb) (none_more Greater)

  pub compared-ended :
      i ≡ min (length a) (length b) →
      after a b i ≡ answer (number_order (length a) (length b)) i
  unfolding order_of compared_bytes
  compared-ended e =
      by_order (length a) (length b) _ _ refl refl
      (λ l. rw (drop_of_length-le a {i = i} (omega arith), drop-cons b i 0 (omega arith), lt-ltb _ _ l) (none_more Less))
      (λ g. rw (
        drop-cons a i 0 (omega arith),
        drop_of_length-le b {i = i} (omega arith),
        le-ltb (length a) (length b) (omega arith),
        lt-ltb _ _ g,
      ) (none_more Greater))
      (λ same. rw (
        drop_of_length-le a {i = i} (omega arith),
        drop_of_length-le b {i = i} (omega arith),
        le-ltb (length a) (length b) (omega arith),
        le-ltb (length b) (length a) (omega arith),
      ) (none_more Equal))

pub all-zero-at : (s : List ℕ) (i : ℕ) → i < length s → all_zero (drop i s) ≡ (eqb (get_or s i 0) 0 && all_zero (drop (i + 1) s))
unfolding all_zero
all-zero-at s i h = rw (add-one i, drop-cons s i 0 h)
