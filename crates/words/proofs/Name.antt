-- Laws of `zero_from`: a turn of the search, its end, and what it finds.
use Rattle.std.proofs.Common.{◌≡◌, ℕ, ◌+◌, ◌-◌, ◌<◌, ◌≤◌, eqb, List, length, get_or, ⊎_elim, arith, eqb-true, Some, None}
use borrow.Author.Tests.{eqb-false}
use Rattle.words.specs.Name.{one_zero, zero_from}
use Rattle.words.proofs.Scan.{turn, end, Searched, searched}

module _ (s : List ℕ) (i : ℕ) where
  pub zero_turn : i < length s → zero_from s i ≡ one_zero s i (zero_from s (i + 1))
  unfolding zero_from
  zero_turn h = turn (one_zero s) None i (length s) h

  pub zero-end : length s ≤ i → zero_from s i ≡ None
  unfolding zero_from
  zero-end h = end (one_zero s) None i (length s) h

module _ (s : List ℕ) (from : ℕ) where
  -- e is the place of the first zero at or after from
  pub record FirstZero (e : ℕ) : Type 0 where
    pub low : from ≤ e
    pub high : e < length s
    pub zero-there : get_or s e 0 ≡ 0
    pub none_before : (i : ℕ) → from ≤ i → i < e → get_or s i 0 ≡ 0 → ⊥

  found : Searched (λ i. eqb (get_or s i 0) 0) Some None from (length s - from)
  found = searched (λ i. eqb (get_or s i 0) 0) Some None from (length s - from)

  pub zero-at : (e : ℕ) → zero_from s from ≡ Some e → FirstZero e
  unfolding zero_from
  zero-at e h =
      ⊎_elim
      (λ w.
      let same : w.0 ≡ e = cc in
      rw (← same) record {
        low = w.1.low;
        high = omega (arith, w.1.low, w.1.high);
        zero-there = eqb-true _ _ w.1.holds;
        none_before = λ i p q. eqb-false _ _ (w.1.before i p q);
      })
      (λ w.
      let never : ◌≡◌ {A = ℕ} 0 1 = cc in
      absurd (omega arith))
      found

  pub zero-nothing : zero_from s from ≡ None → (i : ℕ) → from ≤ i → i < length s → get_or s i 0 ≡ 0 → ⊥
  unfolding zero_from
  zero-nothing h i p q =
      ⊎_elim
      (λ w.
      let never : ◌≡◌ {A = ℕ} 0 1 = cc in
      absurd (omega arith))
      (λ w. eqb-false _ _ (w.0 i p (omega arith)))
      found
