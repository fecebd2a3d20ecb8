-- An action by what its stages answered.
use Rattle.std.proofs.Common.{◌≡◌, ℕ, Bool, true, false, cond, eqb, List, length, sym, ◌∙◌, eq-eqb, ne_eqb, eqb-true, Some, Ok, Err}
use Rattle.words.proofs.Tests.{five}
use Rattle.records.specs.Refusal.{number_of, Verdict}
use Rattle.records.specs.Verdict.{refusal, must, decide}
use Rattle.records.specs.declared.payload.Payload.{Payload}
use Rattle.records.specs.declared.refusal.Reason.TheVariants.{Invalid}
use Rattle.records.specs.declared.refusal.Place.TheVariants.{Nowhere}
use Rattle.records.specs.declared.refusal.Refusal.{Refusal}
use Rattle.memory.specs.Memory.{arena_size, undo_size, ids_size}
use Rattle.state.specs.Change.{changed_at}
use Rattle.state.specs.Find.{with_name, payload_at}
use Rattle.state.specs.State.{unload, called, with_result, with_job}
use Rattle.state.specs.declared.state.Called.{Called}
use Rattle.state.specs.declared.state.Job.{Job}
use Rattle.state.specs.declared.state.State.{State}
use Rattle.ranges.specs.Ranges.{in_range}
use Rattle.actions.specs.Actions.{
  Lent,
  Request,
  action_sizes_ok,
  target_rules,
  request_rules,
  status_for,
  base_ok,
  condition_rules,
  job_for,
  job_begun,
  unloaded_at,
  cleared,
  Acted,
  acted,
  action_on,
  action_of,
}

-- what right sizes tell
pub record Sized (s : State) (arena undo ids : ℕ) : Type 0 where
  pub ranges : in_range s ≡ true
  pub arena_size : arena ≡ arena_size
  pub undo_size : undo ≡ undo_size
  pub ids_size : ids ≡ ids_size

pub sizes-told : (s : State) (arena undo ids build_id : ℕ) → action_sizes_ok s arena undo ids build_id ≡ true → Sized s arena undo ids
unfolding action_sizes_ok
sizes-told s arena undo ids build_id h =
    let parts = five (in_range s) (eqb arena arena_size) (eqb undo undo_size) (eqb ids ids_size) (eqb build_id s.config.id_length) h in
    record {
      ranges = parts.0;
      arena_size = eqb-true _ _ parts.1;
      undo_size = eqb-true _ _ parts.2;
      ids_size = eqb-true _ _ parts.3;
    }

-- what a call leaves, part by part
pub acted-same : {r q : Called} {a b : Lent} → r ≡ q → a ≡ b → acted r a ≡ acted q b
acted-same p q = rw (p, q)

pub begun-same : {j k : Job} {s t : State} → j ≡ k → s ≡ t → with_job j s ≡ with_job k t
begun-same p q = rw (p, q)

-- ---- the conditions: n is the status that the command needs

module _ (s : State) (build_id ids : List ℕ) (command : ℕ) (p : Payload) {n : ℕ} (needed : n ≡ status_for command) where
  pub wrong-status : (p.status ≡ n → ⊥) → condition_rules s build_id ids command p ≡ Err (refusal Invalid Nowhere)
  unfolding condition_rules
  wrong-status h = rw (ne_eqb p.status (status_for command) (λ same. h (same ∙ sym needed)))

  pub right-status :
      {based : Bool} → p.status ≡ n → based ≡ base_ok s build_id ids command p →
      condition_rules s build_id ids command p ≡ must based 33 Nowhere
  unfolding condition_rules
  right-status h b = rw (eq-eqb p.status (status_for command) (h ∙ needed), b)

-- ---- the action, stage by stage

-- a refusal that sets no result
abbrev pub refused_action : State → Lent → Refusal → Acted
refused_action s l r = acted (called (Err r) s) l

-- a refusal that sets the result of the payload at place i
abbrev pub refused_at : State → Lent → ℕ → Refusal → Acted
refused_at s l i r = acted (called (Err r) (changed_at (with_result (number_of r.reason)) s i)) l

-- the payload at place i is unloaded, or its job begins
abbrev pub done_at : State → Lent → Request → ℕ → Acted
done_at s l q i =
    cond (eqb q.command unload)
    (acted (called (Ok tt) (unloaded_at s (Some i))) (cleared (payload_at s i).slot l))
    (acted (called (Ok tt) (with_job (job_for q.command (payload_at s i).slot q.time) (changed_at (with_result 11) s i))) l)

module _ (s : State) (build_id : List ℕ) (l : Lent) (q : Request) where
  abbrev pub sizes_right : Bool
  sizes_right = action_sizes_ok s (length l.arena) (length l.undo) (length l.ids) (length build_id)

  pub wrong-sizes : sizes_right ≡ false → action_of s build_id l q ≡ refused_action s l (refusal Invalid Nowhere)
  unfolding action_of request_rules
  wrong-sizes e = rw e

  module _ (sizes : sizes_right ≡ true) where
    pub wrong-request :
        {r : Refusal} → target_rules s q.name q.command ≡ Err r → action_of s build_id l q ≡ refused_action s l r
    unfolding action_of request_rules
    wrong-request e = rw (sizes, e)

    -- the request is right: the payload's status and the stack decide
    pub by-conditions :
        {i : ℕ} {v : Verdict} → target_rules s q.name q.command ≡ Ok tt → with_name s q.name ≡ Some i →
        condition_rules s build_id l.ids q.command (payload_at s i) ≡ v →
        action_of s build_id l q ≡ decide (refused_at s l i) (done_at s l q i) v
    unfolding action_of request_rules action_on job_begun
    by-conditions right found told = rw (sizes, right, found, told)
