-- Start-up over the records buffer, by what it answered.
use Rattle.std.proofs.Common.{Ok, Err}
use Prim.Native.Nat.{ℕ}
use mathlib.Core.Path.{◌≡◌, sym, ap, subst, ◌∙◌}
use mathlib.Core.List.{List}
use borrow.Author.Tests.{eq-eqb, ne_eqb}
use lib.ListN.{length, replicate}
use Rattle.records.specs.Refusal.{refusal_code, verdict_code, Verdict}
use Rattle.records.specs.Verdict.{decide}
use Rattle.records.specs.declared.refusal.Refusal.{Refusal}
use Rattle.records.proofs.Numbers.{code-some}
use Rattle.acceptance.proofs.Refusals.{pass-refuses}
use Rattle.memory.specs.Memory.{arena_size, undo_size, ids_size}
use Rattle.state.specs.State.{state_with, no_state}
use Rattle.state.specs.declared.state.Called.{Called}
use Rattle.state.specs.declared.state.State.{State}
use Rattle.startup.specs.Start.{Lent, config_for, start_rules, Started, started, start_of}
use Rattle.state_bytes.specs.Layout.{records_size}
use Rattle.state_bytes.specs.Stored.{bytes_of, HoldsState}
use Rattle.action_calls.specs.Changes.{memory, start_told, StartKept}
use Rattle.calls.specs.Told.{told, invalid}

module _ (b : List ℕ) (l : Lent) where
  -- records of another size
  pub wrong_size : {answer : ℕ} → (length b ≡ records_size → ⊥) → answer ≡ invalid → told answer b (memory l.arena l.undo l.ids) ≡ start_told b l
  unfolding start_told
  wrong_size other e = rw (ne_eqb _ _ other, e)

  -- records of the right size: what start-up answered decides
  module _ (size : length b ≡ records_size) (r : Called) (arena undo ids : List ℕ) (v : Verdict) {answer : ℕ} {after : List ℕ} where
    pub start-told :
        started r arena undo ids ≡ start_of l → r.verdict ≡ v → answer ≡ verdict_code v → after ≡ decide (λ f. b) (bytes_of r.state) v →
        told answer after (memory arena undo ids) ≡ start_told b l
    unfolding start_told
    start-told e told-v code kept =
        subst
        (λ (x : Started).
        told answer after (memory arena undo ids)
        ≡ told (verdict_code x.answer) (decide (λ f. b) (bytes_of x.state) x.answer) (memory x.arena x.undo x.ids))
        e
        (rw (told-v, code, kept))
        ∙ rw (eq-eqb _ _ size)

-- no refusal's number is 0, so that nothing is to be kept
pub refused-start : {answer : ℕ} (l : Lent) (after : List ℕ) (r : Refusal) → answer ≡ refusal_code r → StartKept answer l after
refused-start l after r e zero = absurd (code-some r (sym e ∙ zero))

-- the state that an accepted start-up returns
accepted-by :
    (l : Lent) (v : Verdict) {x : Started} →
    x
    ≡ decide
    (λ r. record { answer = Err r; state = no_state; arena = l.arena; undo = l.undo; ids = l.ids })
    (record {
      answer = Ok tt;
      state = state_with (config_for l);
      arena = replicate arena_size 0;
      undo = replicate undo_size 0;
      ids = replicate ids_size 0;
    })
    v →
    x.answer ≡ Ok tt → x.state ≡ state_with (config_for l)
accepted-by l (Ok _) e pass = ap (λ (y : Started). y.state) e
accepted-by l (Err r) e pass = absurd (pass-refuses (sym pass ∙ ap (λ (y : Started). y.answer) e))

pub accepted-state : (l : Lent) {x : Started} → x ≡ start_of l → x.answer ≡ Ok tt → x.state ≡ state_with (config_for l)
unfolding start_of
accepted-state l e pass = accepted-by l (start_rules l) e pass

pub accepted-start :
    (l : Lent) (r : Called) {arena undo ids after : List ℕ} {answer : ℕ} → started r arena undo ids ≡ start_of l → r.verdict ≡ Ok tt →
    HoldsState r.state after → StartKept answer l after
accepted-start l r {arena} {undo} {ids} {after} e pass k zero = subst (λ (s : State). HoldsState s after) (accepted-state l e pass) k
