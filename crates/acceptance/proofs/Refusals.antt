-- Ordered checks that refuse: one of them does.
use Rattle.records.specs.Refusal.{Verdict}
use Rattle.std.proofs.Common.{Ok, Err}
use Prim.Native.Nat.{ℕ, zero, suc, ◌+◌, ◌≤◌, ◌<◌}
use mathlib.Core.Path.{◌≡◌, refl, subst}
use mathlib.Core.Logic.{◌⊎◌, inl, inr, ⊎_elim}
use native.Mathlib.Nat.{eq-or-lt_of_le}
use native.Mathlib.Omega.{arith}
use Rattle.words.specs.Scan.{scan}
use Rattle.records.specs.Verdict.{◌then◌}
use Rattle.records.specs.declared.refusal.Refusal.{Refusal}

pub pass-refuses : {r : Refusal} → ◌≡◌ {A = Verdict} (Ok tt) (Err r) → ⊥
pass-refuses h = let z : ◌≡◌ {A = ℕ} 0 1 = cc in absurd (omega arith)

-- the refusal that two verdicts give is the same
pub same-refusal : {r s : Refusal} → ◌≡◌ {A = Verdict} (Err s) (Err r) → r ≡ s
same-refusal h = cc

pub then-refuses : (a b : Verdict) {r : Refusal} → (a then b) ≡ Err r → (a ≡ Err r) ⊎ ((a ≡ Ok tt) × (b ≡ Err r))
then-refuses (Ok _) b h = inr (refl, h)
then-refuses (Err s) b h = inl h

-- a scan of checks: the first that refuses, and those before it pass
pub record FirstRefusal (f : ℕ → Verdict) (i k : ℕ) (r : Refusal) : Type 0 where
  pub at : ℕ
  pub low : i ≤ at
  pub high : at < i + k
  pub refused : f at ≡ Err r
  pub before : (j : ℕ) → i ≤ j → j < at → f j ≡ Ok tt

pub scan-refuses :
    (f : ℕ → Verdict) (i k : ℕ) {r : Refusal} → scan (λ j rest. f j then rest) (Ok tt) i k ≡ Err r → FirstRefusal f i k r
unfolding scan
scan-refuses f i zero h = absurd (pass-refuses h)
scan-refuses f i (suc k) {r} h =
    ⊎_elim
    (λ e. record { at = i; low = omega arith; high = omega arith; refused = e; before = λ j low high. absurd (omega arith) })
    (λ w. later w.0 (scan-refuses f (suc i) k w.1))
    (then-refuses (f i) (scan (λ j rest. f j then rest) (Ok tt) (suc i) k) h)
  where
    later : f i ≡ Ok tt → FirstRefusal f (suc i) k r → FirstRefusal f i (suc k) r
    later first w =
        record {
          at = w.at;
          low = omega (arith, w.low);
          high = omega (arith, w.high);
          refused = w.refused;
          before = λ j low high.
              ⊎_elim
              (λ e. subst (λ (n : ℕ). f n ≡ Ok tt) e first)
              (λ m. w.before j m high)
              (eq-or-lt_of_le low);
        }
