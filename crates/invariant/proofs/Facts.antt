-- What a sound model tells: the payload in a slot that is taken is sound; how much there can be of payloads, stack and steps of a job; and what a
-- work step leaves laid.
use Rattle.std.proofs.Common.{Some}
use Prim.Native.Nat.{ℕ, ◌+◌, ◌*◌, ◌≤◌, ◌<◌}
use mathlib.Core.Path.{◌≡◌, refl, sym, ap, ◌∙◌}
use mathlib.Core.Bool.{true}
use mathlib.Core.List.{List, [], ◌∷◌}
use native.Mathlib.Omega.{arith}
use borrow.Author.Tests.{eqb-false}
use lib.Dec.{eqb}
use lib.ListN.{length, length-append, length-map}
use Rattle.words.specs.Name.{is_found}
use Rattle.records.specs.Limits.{records_max}
use Rattle.memory.specs.Memory.{slot_count}
use Rattle.model.specs.Model.{Start, Loaded, Job, Model}
use Rattle.model.specs.Step.{with_slot, payload_in, free_slot, slot_in, edit_count, step_count, laid_after, stack_after}
use Rattle.invariant.specs.Done.{stack_edits, done_after}
use Rattle.invariant.specs.Sound.{All, SoundPayload, Different, Sound}
use Rattle.invariant.proofs.Lists.{by-test, all-as, few-below, no_more}
use Rattle.invariant.proofs.Slots.{
  is_in,
  holds,
  in_slot,
  slot-in,
  all-pick,
  slots,
  holds-among,
  payloads-few,
  payloads-fewer,
  slot-holds,
  payload-in,
}
use Rattle.invariant.proofs.Edits.{length-first, edits_in, edits-in, count-in, steps, steps-in, done-in}
use Rattle.invariant.proofs.Parts.{Stacked, JobParts, parts}
use Rattle.invariant.proofs.Rendezvous.{job_of}
use Rattle.invariant.proofs.Upload.{slot-free}
use Rattle.invariant.proofs.Work.{laid_next, laid_end}

module _ (a : Start) (ps : List Loaded) (sound : All (SoundPayload a) ps) where
  -- a slot that is taken is one of 8, and its payload has at most `records_max` edits
  slot-below : (slot : ℕ) → holds slot ps ≡ true → slot < slot_count
  slot-below slot h = rw (slot-in slot ps h) at (all-pick (is_in slot) (SoundPayload a) ps sound h).slotted

  own-few : (slot : ℕ) → holds slot ps ≡ true → length (in_slot slot ps).edits ≤ records_max
  own-few slot h = (all-pick (is_in slot) (SoundPayload a) ps sound h).edits_few

  module _ (stack : List ℕ) (stacked : Stacked ps stack) (different : Different stack) where
    pub stack-few : length stack ≤ slot_count
    stack-few = few-below slot_count stack different (all-as _ _ slot-below stack stacked)

    -- no more than the payloads
    pub stack-loaded : length stack ≤ length ps
    stack-loaded =
        omega (
          arith,
          no_more stack (slots ps) different (all-as _ _ (λ x h. sym (holds-among x ps) ∙ h) stack stacked),
          length-map ps (λ p. p.slot),
        )

  edits_few : (stack : List ℕ) → Stacked ps stack → length (edits_in ps stack) ≤ records_max * length stack
  edits_few [] h = omega arith
  edits_few (slot ∷ older) h =
      rw (length-append, length-first (in_slot slot ps)) (omega (arith, own-few slot h.0, edits_few older h.1))

  module _ (stack : List ℕ) (stacked : Stacked ps stack) (different : Different stack) (j : Job) (s : JobParts a ps stack j) where
    steps-most : steps ps stack j.action j.slot ≤ slot_count * records_max
    steps-most =
        let own = own-few j.slot s.loaded in
        by-test (eqb j.action 2)
        (λ e. rw e (omega arith))
        (λ e.
        let room = stack-few (j.slot ∷ stack) (s.loaded, stacked) (s.new (eqb-false j.action 2 e), different) in
        rw e (
        by-test (eqb j.action 4)
        (λ f. rw f (omega (arith, edits_few stack stacked)))
        (λ f. rw f (omega arith))
        ))

    room-left : (j.action ≡ 2 → ⊥) → length stack < length ps
    room-left other = stack-loaded (j.slot ∷ stack) (s.loaded, stacked) (s.new other, different)

-- ---- of a sound model

-- the payload in a slot that is taken
pub taken-sound :
    {l : Model} → Sound l → (slot : ℕ) → is_found (with_slot l slot) ≡ true →
    SoundPayload l.start (payload_in l slot) × ((payload_in l slot).slot ≡ slot)
taken-sound {l} s slot h =
    let taken : holds slot l.payloads ≡ true = sym (slot-holds l slot) ∙ h in
    rw (payload-in l slot) (all-pick (is_in slot) (SoundPayload l.start) l.payloads s.payloads taken, slot-in slot l.payloads taken)

-- at most 8 payloads, and fewer where a slot is free
pub loaded-few : {l : Model} → Sound l → length l.payloads ≤ slot_count
loaded-few {l} s = payloads-few l.payloads (all-as _ _ (λ p h. h.slotted) l.payloads s.payloads) s.apart

pub loaded-fewer : {l : Model} → Sound l → is_found (free_slot l) ≡ true → length l.payloads < slot_count
unfolding with_slot
loaded-fewer {l} s h =
    let free = slot-free l (free_slot l) refl h in
    payloads-fewer l.payloads (slot_in (free_slot l)) (all-as _ _ (λ p h. h.slotted) l.payloads s.payloads) s.apart free.0 free.1

-- the stack has no more than are loaded, and fewer where the job's payload is not on it
pub depth-few : {l : Model} → Sound l → length l.stack ≤ length l.payloads
depth-few {l} s = stack-loaded l.start l.payloads s.payloads l.stack (parts l s).stacked s.different

-- its edits are as many as are counted
pub edits-counted : (l : Model) (slots : List ℕ) → length (stack_edits l slots) ≡ edit_count l slots
edits-counted l slots = ap length (edits-in l slots) ∙ sym (count-in l slots)

module _ {l : Model} {j : Job} (s : Sound l) (e : l.job ≡ Some j) where
  pub depth-fewer : (j.action ≡ 2 → ⊥) → length l.stack < length l.payloads
  depth-fewer other =
      let p = parts l s in
      room-left l.start l.payloads p.payloads l.stack p.stacked p.different j (job_of l p j e) other

  -- at most 8 payloads of at most `records_max` edits
  pub steps-few : step_count l j ≤ slot_count * records_max
  steps-few =
      let p = parts l s in
      rw (steps-in l j) (steps-most l.start l.payloads p.payloads l.stack p.stacked p.different j (job_of l p j e))

  -- what is laid after a step is what one step more leaves, and after the last the edits of the new stack
  pub laid-step : laid_after l j ≡ done_after l j (j.steps + 1)
  laid-step = laid_next l (parts l s) j e ∙ sym (done-in l j (j.steps + 1))

  pub laid-last : j.steps + 1 ≡ step_count l j → laid_after l j ≡ stack_edits l (stack_after j.action j.slot l.stack)
  laid-last last = laid_end l (parts l s) j e last ∙ sym (edits-in l (stack_after j.action j.slot l.stack))
