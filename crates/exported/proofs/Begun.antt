-- An accepted start-up over the C boundary leaves records and memory that stand for the model in which nothing is loaded.
use Prim.Native.Nat.{ℕ}
use mathlib.Core.Path.{◌≡◌, refl, sym, ap, subst, ◌∙◌}
use mathlib.Core.Bool.{Bool, true, false, cond}
use mathlib.Core.List.{List}
use lib.Dec.{eqb}
use lib.ListN.{length}
use Rattle.records.specs.Refusal.{verdict_code}
use Rattle.records.specs.Verdict.{refusal, decide}
use Rattle.records.specs.declared.refusal.Place.TheVariants.{Nowhere}
use Rattle.records.specs.declared.refusal.Reason.TheVariants.{Invalid}
use Rattle.records.proofs.Numbers.{code-some, code-zero}
use Rattle.state.specs.State.{state_with}
use Rattle.startup.specs.Start.{Lent, config_for, Started, start_of}
use Rattle.state_bytes.specs.Layout.{records_size}
use Rattle.state_bytes.specs.Stored.{bytes_of, state_in, is_state, HoldsState}
use Rattle.action_calls.specs.Changes.{Memory, memory, start_told, StartKept}
use Rattle.calls.specs.Told.{Told, told, invalid}
use Rattle.action_calls.proofs.StartLaws.{accepted-state}
use Rattle.model.specs.Model.{opened}
use Rattle.invariant.specs.Sound.{Sound}
use Rattle.refinement.specs.Stands.{Loader, Stands}
use Rattle.sequence.proofs.Start.{start_for, start-stands}

-- what a start-up told, by whether the records have their size
abbrev told_by : Bool → List ℕ → Lent → Told Memory
told_by t b l =
    let x : Started = start_of l in
    cond t
    (told (verdict_code x.answer) (decide (λ r. b) (bytes_of x.state) x.answer) (memory x.arena x.undo x.ids))
    (told invalid b (memory l.arena l.undo l.ids))

module _ (l : Lent) (after arena undo ids : List ℕ) where
  pub record Begun : Type 0 where
    pub records : is_state after ≡ true
    pub stands :
        Stands
        (record { state = state_in after; text = l.text; arena = arena; undo = undo; ids = ids; build_id = l.build_id })
        (opened (start_for l))
    pub sound : Sound (opened (start_for l))

  begun-by : (b : List ℕ) (t : Bool) → told 0 after (memory arena undo ids) ≡ told_by t b l → HoldsState (state_with (config_for l)) after → Begun
  begun-by b false e k = absurd (code-some (refusal Invalid Nowhere) (sym (ap (λ (x : Told Memory). x.answer) e)))
  begun-by b true e k =
      let x : Started = start_of l in
      let pass = code-zero x.answer (sym (ap (λ (y : Told Memory). y.answer) e)) in
      let lent = ap (λ (y : Told Memory). y.memory) e in
      let begun = start-stands l x refl pass in
      let state = accepted-state l refl pass ∙ sym k.read in
      record {
        records = k.whole;
        stands = subst
            (λ (y : Loader). Stands y (opened (start_for l)))
            (rw (
              state,
              ← ap (λ (y : Memory). y.arena) lent,
              ← ap (λ (y : Memory). y.undo) lent,
              ← ap (λ (y : Memory). y.ids) lent,
            )
            refl)
            begun.0;
        sound = begun.1;
      }

  pub begins : (b : List ℕ) → told 0 after (memory arena undo ids) ≡ start_told b l → StartKept 0 l after → Begun
  unfolding start_told
  begins b e kept = begun-by b (eqb (length b) records_size) e (kept refl)
