-- What a verdict tells of a payload: it passes and K holds, or it refuses and a rule is broken, with its number at its place.
use Rattle.std.proofs.Common.{Ok, Err}
use Prim.Native.Nat.{ℕ, zero, suc, ◌≤◌, ◌<◌}
use mathlib.Core.Path.{◌≡◌, refl, sym, ◌∙◌, subst}
use mathlib.Core.Bool.{Bool, true, false, cond, false≢true, true≢false}
use mathlib.Core.Logic.{⊎_elim}
use mathlib.Core.List.{List}
use native.Mathlib.Nat.{eq-or-lt_of_le}
use native.Mathlib.Omega.{arith}
use Rattle.words.specs.Scan.{scan}
use Rattle.records.specs.Refusal.{number_of, reason_for, Verdict}
use Rattle.records.specs.Verdict.{refusal, must, ◌then◌}
use Rattle.records.specs.declared.refusal.Reason.{Reason}
use Rattle.records.specs.declared.refusal.Place.{Place}
use Rattle.records.specs.declared.refusal.Refusal.{Refusal}
use Rattle.records.proofs.Checks.{then-pass, scan-passes}
use Rattle.acceptance.specs.Broken.{Broken}
use Rattle.acceptance.specs.Stages.{Setting}
use Rattle.acceptance.proofs.Refusals.{pass-refuses, same-refusal, then-refuses, scan-refuses}

-- what holds of x where the test holds, and of y where it does not
pub by-test :
    {A : Type 0} (P : A → Type 0) (test : Bool) (x y : A) → (test ≡ true → P x) → (test ≡ false → P y) → P (cond test x y)
by-test P true x y yes-x no-y = yes-x refl
by-test P false x y yes-x no-y = no-y refl

pub record Tells (t : Setting) (file : List ℕ) (K : Type 0) (v : Verdict) : Type 0 where
  pub kept : v ≡ Ok tt → K
  pub broken : (r : Refusal) → v ≡ Err r → Broken t file (number_of r.reason) r.place

module _ {t : Setting} {file : List ℕ} where
  pub passes : {K : Type 0} → K → Tells t file K (Ok tt)
  passes k = record { kept = λ e. k; broken = λ r e. absurd (pass-refuses e) }

  pub refuses : {K : Type 0} {reason : Reason} {place : Place} → Broken t file (number_of reason) place → Tells t file K (Err (refusal reason place))
  refuses b = record { kept = λ e. absurd (pass-refuses (sym e)); broken = λ r e. rw (same-refusal e) b }

  -- one check
  pub told-must :
      (test : Bool) (number : ℕ) (place : Place) → (test ≡ false → Broken t file (number_of (reason_for number)) place) →
      Tells t file (test ≡ true) (must test number place)
  told-must true number place broken = passes refl
  told-must false number place broken = refuses (broken refl)

  -- what is kept, said in other words
  pub told-as : {K L : Type 0} {v : Verdict} → (K → L) → Tells t file K v → Tells t file L v
  told-as f told = record { kept = λ e. f (told.kept e); broken = told.broken }

  -- one check, then the next, which may rest on what the first keeps
  infixr 20 ◌told-then◌
  pub ◌told-then◌ : {K L : Type 0} {v w : Verdict} → Tells t file K v → (K → Tells t file L w) → Tells t file (K × L) (v then w)
  ◌told-then◌ {v = v} {w = w} first next =
      record {
        kept = λ e. let both = then-pass v w e in (first.kept both.0, (next (first.kept both.0)).kept both.1);
        broken = λ r e. ⊎_elim (first.broken r) (λ later. (next (first.kept later.0)).broken r later.1) (then-refuses v w e);
      }

  -- a check that is made only where a test holds, or only where it does not
  pub told-where : {K : Type 0} (test : Bool) (v : Verdict) → (test ≡ true → Tells t file K v) → Tells t file (test ≡ true → K) (cond test v (Ok tt))
  told-where {K} test v told =
      by-test (Tells t file (test ≡ true → K)) test v (Ok tt)
      (λ e. told-as (λ k h. k) (told e))
      (λ e. passes (λ h. absurd (false≢true (sym e ∙ h))))

  pub told-unless : {K : Type 0} (test : Bool) (v : Verdict) → (test ≡ false → Tells t file K v) → Tells t file (test ≡ false → K) (cond test (Ok tt) v)
  told-unless {K} test v told =
      by-test (Tells t file (test ≡ false → K)) test (Ok tt) v
      (λ e. passes (λ h. absurd (true≢false (sym e ∙ h))))
      (λ e. told-as (λ k h. k) (told e))

  -- a scan of checks, each of which may rest on what those before it keep
  pub told-scan :
      {K : ℕ → Type 0} (f : ℕ → Verdict) (n : ℕ) →
      ((j : ℕ) → j < n → ((i : ℕ) → i < j → K i) → Tells t file (K j) (f j)) →
      Tells t file ((j : ℕ) → j < n → K j) (scan (λ j rest. f j then rest) (Ok tt) 0 n)
  told-scan {K} f n told =
      record {
        kept = λ e j h. all-kept n (λ i low. scan-passes f 0 n e i (omega arith) (omega arith)) (omega arith) j h;
        broken = λ r e.
            let w = scan-refuses f 0 n e in
            let high : w.at < n = omega (arith, w.high) in
            (told w.at high (all-kept w.at (λ i low. w.before i (omega arith) low) (omega arith))).broken r w.refused;
      }
    where
      -- where the first m checks pass, all that they keep holds
      all-kept : (m : ℕ) → ((i : ℕ) → i < m → f i ≡ Ok tt) → m ≤ n → (j : ℕ) → j < m → K j
      all-kept zero pass few j h = absurd (omega arith)
      all-kept (suc m) pass few j h =
          let before = all-kept m (λ i low. pass i (omega arith)) (omega arith) in
          let most : j ≤ m = omega arith in
          ⊎_elim
          (λ e. subst (λ (k : ℕ). K k) (sym e) ((told m (omega arith) before).kept (pass m (omega arith))))
          (λ low. before j low)
          (eq-or-lt_of_le most)
