-- Ordered checks that pass: each of them passes; and a verdict that decides between two answers is told by them.
use Rattle.records.specs.Refusal.{Verdict}
use Rattle.std.proofs.Common.{Ok, Err}
use Prim.Native.Nat.{ℕ, zero, suc, ◌+◌, ◌≤◌, ◌<◌}
use mathlib.Core.Path.{◌≡◌, refl, sym, ap, ◌∙◌, subst}
use mathlib.Core.Bool.{Bool, true, false}
use mathlib.Core.Logic.{⊎_elim}
use native.Mathlib.Nat.{eq-or-lt_of_le}
use native.Mathlib.Omega.{arith}
use Rattle.words.specs.Scan.{scan}
use Rattle.records.specs.Verdict.{must, ◌then◌, decide, verdict_of}
use Rattle.records.specs.declared.refusal.Place.{Place}
use Rattle.records.specs.declared.refusal.Refusal.{Refusal}

pub must-pass : (t : Bool) (number : ℕ) (place : Place) → must t number place ≡ Ok tt → t ≡ true
must-pass true number place h = refl
must-pass false number place h = cc

pub then-pass : (a b : Verdict) → (a then b) ≡ Ok tt → (a ≡ Ok tt) × (b ≡ Ok tt)
then-pass (Ok _) b h = (refl, h)
then-pass (Err r) b h = (h, cc)

-- a scan of checks
pub scan-passes :
    (f : ℕ → Verdict) (i k : ℕ) → scan (λ j rest. f j then rest) (Ok tt) i k ≡ Ok tt → (j : ℕ) → i ≤ j → j < i + k → f j ≡ Ok tt
unfolding scan
scan-passes f i zero h j g l = absurd (omega arith)
scan-passes f i (suc k) h j g l =
    let both = then-pass (f i) (scan (λ j rest. f j then rest) (Ok tt) (suc i) k) h in
    ⊎_elim
    (λ e. subst (λ (n : ℕ). f n ≡ Ok tt) e both.0)
    (λ m. scan-passes f (suc i) k both.1 j m (omega arith))
    (eq-or-lt_of_le g)

-- ---- a verdict that decides between two answers, each of which holds it

module _ {A : Type 0} (verdict-of : A → Verdict) (refused : Refusal → A) (accepted : A) where
  -- each answer holds the verdict that it is given for
  pub record Told : Type 0 where
    pub refusing : (r : Refusal) → verdict-of (refused r) ≡ Err r
    pub accepting : verdict-of accepted ≡ Ok tt

  pub decided-verdict : Told → (v : Verdict) → verdict-of (decide refused accepted v) ≡ v
  decided-verdict told (Ok _) = told.accepting
  decided-verdict told (Err r) = told.refusing r

  -- so an answer that was decided by the rules tells what they say
  pub rules-told : Told → (rules v : Verdict) {answer : A} → answer ≡ decide refused accepted rules → verdict-of answer ≡ v → rules ≡ v
  rules-told told rules v e h = sym (decided-verdict told rules) ∙ ap verdict-of (sym e) ∙ h

  -- and is the answer of that verdict
  pub answer-told : Told → (rules v : Verdict) {answer : A} → answer ≡ decide refused accepted rules → verdict-of answer ≡ v → answer ≡ decide refused accepted v
  answer-told told rules v e h = e ∙ ap (λ (w : Verdict). decide refused accepted w) (rules-told told rules v e h)

-- an answer that is a Result: it is refused as the rules say, and what is accepted is what was to be given
module _ {A : Type 0} (a : A) where
  pub decided-ok : (v : Verdict) {x : A} → decide Err (Ok a) v ≡ Ok x → (v ≡ Ok tt) × (x ≡ a)
  decided-ok (Ok _) h = (refl, cc)
  decided-ok (Err r) h = (cc, cc)

  pub decided-err : (v : Verdict) {r : Refusal} → decide Err (Ok a) v ≡ Err r → v ≡ Err r
  decided-err (Ok _) h = cc
  decided-err (Err r) h = cc

  pub decided-is : (v : Verdict) → verdict_of (decide Err (Ok a) v) ≡ v
  decided-is (Ok _) = refl
  decided-is (Err r) = refl
