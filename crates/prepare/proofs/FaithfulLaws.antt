-- The outcome of a preparation is faithful: it says of the payload what the rules say.
use Rattle.records.specs.Refusal.{Verdict}
use Rattle.std.proofs.Common.{Ok, Err}
use Prim.Native.Nat.{ℕ}
use mathlib.Core.Path.{◌≡◌, refl, ap, subst⁻¹, ◌∙◌}
use mathlib.Core.Bool.{Bool, true, false}
use mathlib.Core.List.{List}
use Rattle.records.specs.Verdict.{verdict_of}
use Rattle.records.proofs.Checks.{decided-verdict}
use Rattle.acceptance.specs.Broken.{Exact}
use Rattle.acceptance.specs.Consulted.{Alike}
use Rattle.acceptance.specs.Stages.{Setting, payload_rules}
use Rattle.acceptance.proofs.Exactness.{exact}
use Rattle.acceptance.proofs.SameAnswers.{SameAnswer, alike_same, differ-alike}
use Rattle.prepare.specs.Prepare.{sizes_ok, prepare_rules, Outcome, prepare_of, Faithful, Prepares}
use Rattle.prepare.proofs.OutcomeLaws.{outcome_by, outcome-told, prepared-by}

module _ (t : Setting) (file image : List ℕ) where
  -- where the sizes are right, the verdict is that of the payload's own rules
  own-rules : sizes_ok t image ≡ true → verdict_of (prepare_of t file image).answer ≡ payload_rules t file
  own-rules sizes =
      ap (λ (o : Outcome). verdict_of o.answer) (prepared-by t file image sizes refl refl)
      ∙ decided-verdict _ _ _ (outcome-told t file image) (payload_rules t file)

  -- a file that differs in no byte that is consulted has the same outcome
  module _ (other : List ℕ) (alike : Alike file other) where
    same : SameAnswer t file other
    same = alike_same t file other alike

    by-verdict : (v : Verdict) → payload_rules t file ≡ v → outcome_by t other image v ≡ outcome_by t file image v
    by-verdict (Ok _) e =
        let given = same.given e in
        rw (given.3, given.4, given.2, given.0, given.1)
    by-verdict (Err r) e = refl

    same_outcome : (sizes : Bool) → sizes_ok t image ≡ sizes → prepare_of t other image ≡ prepare_of t file image
    unfolding prepare_of prepare_rules
    same_outcome true e = rw (e, ← same.rules) (by-verdict (payload_rules t file) refl)
    same_outcome false e = rw e

  faithful : Faithful t file image (prepare_of t file image)
  faithful =
      record {
        exact = λ sizes. subst⁻¹ (Exact t file) (own-rules sizes) (exact t file);
        unconsulted = λ other alike. same_outcome other alike (sizes_ok t image) refl;
        ignored = λ other differ. same_outcome other (differ-alike file other differ) (sizes_ok t image) refl;
      }

  -- all that is promised of an outcome that is the definition's
  pub prepares : {o : Outcome} → o ≡ prepare_of t file image → Prepares t file image o
  prepares e = record { equal = e; faithful = subst⁻¹ (Faithful t file image) e faithful }
