-- The digits of a number, written: none, one, and one behind the others.
use Prim.Native.Nat.{ℕ, zero, suc, ◌+◌, ◌-◌, ◌/◌, ◌%◌, ◌≤◌, ◌<◌}
use mathlib.Core.Path.{◌≡◌, refl, ◌∙◌}
use mathlib.Core.List.{List, [], ◌∷◌, ◌++◌}
use native.Mathlib.Omega.{arith}
use borrow.Author.Tests.{lt-ltb, le-ltb}
use lib.ListN.{length}
use Rattle.script.specs.Decimal.{digits_up_to}
use Rattle.answers.specs.Written.{written, writing}
use Rattle.answers.proofs.Written.{none, behind}

digits-none : (k n : ℕ) → k ≡ 0 → digits_up_to k n ≡ []
unfolding digits_up_to
digits-none zero n e = refl
digits-none (suc k) n e = absurd (omega arith)

digits-one : (k n : ℕ) → (k ≡ 0 → ⊥) → n < 10 → digits_up_to k n ≡ (48 + n % 10) ∷ []
unfolding digits_up_to
digits-one zero n some small = absurd (some refl)
digits-one (suc k) n some small = rw (lt-ltb n 10 small)

digits_more : (k n : ℕ) → (k ≡ 0 → ⊥) → 10 ≤ n → digits_up_to k n ≡ digits_up_to (k - 1) (n / 10) ++ ((48 + n % 10) ∷ [])
unfolding digits_up_to
digits_more zero n some large = absurd (some refl)
digits_more (suc k) n some large =
    let less : suc k - 1 ≡ k = omega arith in
    rw (less, le-ltb n 10 large)

module _ (out : List ℕ) (at k n : ℕ) where
  pub written_none : k ≡ 0 → written out at ≡ writing out at (digits_up_to k n)
  written_none e = none out at ∙ rw (digits-none k n e)

  pub written_one :
      {d : ℕ} {last : List ℕ} {r : ℕ} → (k ≡ 0 → ⊥) → n < 10 → d ≡ 48 + n % 10 → written last r ≡ writing out at (d ∷ []) →
      written last r ≡ writing out at (digits_up_to k n)
  written_one some small e first = first ∙ rw (digits-one k n some small, e)

  pub written-more :
      {d : ℕ} {after last : List ℕ} {end r : ℕ} → (k ≡ 0 → ⊥) → 10 ≤ n → d ≡ 48 + n % 10 →
      written after end ≡ writing out at (digits_up_to (k - 1) (n / 10)) → written last r ≡ writing after end (d ∷ []) → at ≤ length out →
      written last r ≡ writing out at (digits_up_to k n)
  written-more {d} some large e first second room =
      behind out at (digits_up_to (k - 1) (n / 10)) (d ∷ []) first second room ∙ rw (digits_more k n some large, e)
