-- Calls over the records buffer, by what was tested and stored.
use Prim.Native.Nat.{ℕ}
use mathlib.Core.Path.{◌≡◌, sym, subst, ◌∙◌}
use mathlib.Core.Bool.{true, false, false≢true}
use mathlib.Core.List.{List}
use Rattle.records.specs.Refusal.{refusal_code, verdict_code, Verdict}
use Rattle.records.specs.Verdict.{refusal}
use Rattle.records.specs.declared.refusal.Place.TheVariants.{Nowhere}
use Rattle.records.specs.declared.refusal.Reason.TheVariants.{Invalid}
use Rattle.records.specs.declared.refusal.Refusal.{Refusal}
use Rattle.state.specs.declared.state.State.{State}
use Rattle.state_bytes.specs.Stored.{is_state, HoldsState}
use Rattle.calls.specs.Told.{Told, told, invalid, stored, over_records, RecordsKept}

-- 22, nowhere, in one number
pub told-invalid : {answer : ℕ} {r : Refusal} → r ≡ refusal Invalid Nowhere → answer ≡ refusal_code r → answer ≡ invalid
told-invalid e f = f ∙ rw e

module _ (b : List ℕ) where
  -- where they are none, the call is refused, and nothing is to be kept
  module _ (none : is_state b ≡ false) where
    pub refused-told : {M : Type 0} {answer : ℕ} (m : M) (call : Told M) → answer ≡ invalid → told answer b m ≡ over_records b m call
    refused-told m call e = rw (none, e)

    pub refused-kept : {s : State} {after : List ℕ} → RecordsKept b s after
    refused-kept h = absurd (false≢true (sym none ∙ h))

  -- else the outcome of the call is told and stored
  pub outcome-told :
      {M X : Type 0} (verdict : X → Verdict) (state : X → State) (memory : X → M) (m : M) (y x : X) {answer : ℕ} {after : List ℕ} →
      is_state b ≡ true → answer ≡ verdict_code (verdict y) → HoldsState (state y) after → y ≡ x →
      (told answer after (memory y) ≡ over_records b m (stored (verdict x) (state x) (memory x))) × RecordsKept b (state x) after
  outcome-told {M} {X} verdict state memory m y x {answer} {after} h e k same =
      subst
      (λ (z : X).
      (told answer after (memory y) ≡ over_records b m (stored (verdict z) (state z) (memory z))) × RecordsKept b (state z) after)
      same
      (rw (h, e, k.bytes), λ g. k)

  -- or it was made in the records
  pub made_told :
      {M : Type 0} (m : M) {answer : ℕ} {v w : Verdict} {s : State} {after : List ℕ} {l k : M} → is_state b ≡ true → answer ≡ verdict_code v →
      v ≡ w → HoldsState s after → l ≡ k → (told answer after l ≡ over_records b m (stored w s k)) × RecordsKept b s after
  made_told m h e f k g = (rw (h, e, f, g, k.bytes), λ is. k)
