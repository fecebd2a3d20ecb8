-- The numbers of the reasons: a number tells its reason, and none is 0.
use Rattle.std.proofs.Common.{Ok, Err}
use Prim.Native.Nat.{◌≤◌}
use mathlib.Core.Path.{◌≡◌, refl}
use native.Mathlib.Omega.{arith}
use Rattle.records.specs.Refusal.{number_of, reason_for, refusal_code, verdict_code, Verdict}
use Rattle.records.specs.declared.refusal.Reason as declared
use Rattle.records.specs.declared.refusal.Refusal.{Refusal}

pub record Numbered (reason : declared.Reason) : Type 0 where
  pub back : reason_for (number_of reason) ≡ reason
  pub some : 2 ≤ number_of reason

pub numbered : (reason : declared.Reason) → Numbered reason
numbered declared.TheVariants.NotLoaded = record { back = refl; some = omega arith }
numbered declared.TheVariants.NotListed = record { back = refl; some = omega arith }
numbered declared.TheVariants.TooMany = record { back = refl; some = omega arith }
numbered declared.TheVariants.BadHeader = record { back = refl; some = omega arith }
numbered declared.TheVariants.NoRoom = record { back = refl; some = omega arith }
numbered declared.TheVariants.Busy = record { back = refl; some = omega arith }
numbered declared.TheVariants.Loaded = record { back = refl; some = omega arith }
numbered declared.TheVariants.Invalid = record { back = refl; some = omega arith }
numbered declared.TheVariants.WrongBase = record { back = refl; some = omega arith }
numbered declared.TheVariants.OutOfRange = record { back = refl; some = omega arith }
numbered declared.TheVariants.Unsupported = record { back = refl; some = omega arith }

pub code-some : (r : Refusal) → refusal_code r ≡ 0 → ⊥
unfolding refusal_code
code-some r e = omega (arith, (numbered r.reason).some)

-- 0 is the number of no refusal
pub code-zero : (v : Verdict) → verdict_code v ≡ 0 → v ≡ Ok tt
code-zero (Ok _) e = refl
code-zero (Err r) e = absurd (code-some r e)
