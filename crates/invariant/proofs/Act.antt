-- An action keeps a sound model sound: refused with a result, unloaded at once, or begun as the job.
use Rattle.std.proofs.Common.{Some, None, Option, ℕ, Ok}
use Prim.Native.Nat.{ℕ, suc, ◌≤◌, ◌<◌}
use mathlib.Core.Path.{◌≡◌, refl, sym, ◌∙◌, subst⁻¹}
use mathlib.Core.Bool.{Bool, true, false, cond, ◌&&◌}
use mathlib.Core.List.{List, [], ◌∷◌, ◌++◌}
use native.Mathlib.Omega.{arith}
use borrow.Author.Tests.{leb-true, eqb-true, eqb-false, eq-eqb, ne_eqb, not-true}
use lib.Dec.{leb, eqb}
use lib.ListN.{length, get_or, take, drop, length-replicate}
use Rattle.words.specs.Name.{is_found}
use Rattle.words.specs.Order.{equal}
use Rattle.words.proofs.Find.{first-hit}
use Rattle.words.proofs.Tests.{both}
use Rattle.records.specs.Name.{is_name}
use Rattle.records.specs.Refusal.{number_of}
use Rattle.records.specs.Verdict.{must}
use Rattle.records.specs.declared.refusal.Place.TheVariants.{Nowhere}
use Rattle.records.proofs.Checks.{must-pass, then-pass}
use Rattle.model.specs.Model.{Loaded, Job, Model, no_payload}
use Rattle.model.specs.Step.{
  with_list,
  with_job,
  with_result,
  with_name,
  payload_found,
  named,
  changed_found,
  is_busy,
  is_applied,
  request_rules,
  base_ok,
  condition_rules,
  without,
  job_for,
  act,
  acted,
}
use Rattle.invariant.specs.Sound.{All, HasStatus}
use Rattle.invariant.proofs.Lists.{never, by-test, all-at, among, found-any, all-fail, among-missing}
use Rattle.invariant.proofs.Slots.{is_in, holds, in_slot, in-own-slot, all-pick, all-cut, apart-cut}
use Rattle.invariant.proofs.Edits.{Kept, kept-cut, done_none}
use Rattle.invariant.proofs.Parts.{JobParts, expected_in, Parts, decided}
use Rattle.invariant.proofs.Carried.{KeptJob, relisted, changed-is, result-kept}
use Rattle.invariant.proofs.Rendezvous.{with-job}

-- ---- what the rules say where they pass

module _ (l : Model) (name : List ℕ) (command : ℕ) where
  record Requested : Type 0 where
    found : is_found (with_name l name) ≡ true
    low : 1 ≤ command
    high : command ≤ 4
    free : is_busy l.job command (named l name) ≡ false

  requested : request_rules l name command ≡ Ok tt → Requested
  unfolding request_rules
  requested h =
      let one = then-pass (must (is_name name) 22 Nowhere) _ h in
      let two = then-pass (must (is_found (with_name l name)) 2 Nowhere) _ one.1 in
      let three = then-pass (must (leb 1 command && leb command 4) 22 Nowhere) _ two.1 in
      let range = both (leb 1 command) (leb command 4) (must-pass _ 22 Nowhere three.0) in
      record {
        found = must-pass _ 2 Nowhere two.0;
        low = leb-true 1 command range.0;
        high = leb-true command 4 range.1;
        free = not-true _ (must-pass _ 16 Nowhere three.1);
      }

-- the last rules, of the payload of that name
module _ (l : Model) (command : ℕ) where
  record Conditioned (p : Loaded) : Type 0 where
    status : p.status ≡ cond (eqb command 2) 2 1
    base : base_ok l command p ≡ true

  conditioned : (p : Loaded) → condition_rules l command p ≡ Ok tt → Conditioned p
  unfolding condition_rules
  conditioned p h =
      let one = then-pass (must (eqb p.status (cond (eqb command 2) 2 1)) 22 Nowhere) _ h in
      record { status = eqb-true _ _ (must-pass _ 22 Nowhere one.0); base = must-pass _ 33 Nowhere one.1 }

-- ---- a payload of the list

module _ (l : Model) (s : Parts l) (i : ℕ) (inside : i < length l.payloads) where
  abbrev chosen : Loaded
  chosen = get_or l.payloads i no_payload

  abbrev own : (holds chosen.slot l.payloads ≡ true) × (in_slot chosen.slot l.payloads ≡ chosen)
  own = in-own-slot l.payloads s.apart i inside

  -- of status 1 it is not on the stack
  not-stacked : chosen.status ≡ 1 → among chosen.slot l.stack ≡ false
  not-stacked one =
      let status = all-at (HasStatus l.stack) l.payloads s.statuses i no_payload inside in
      by-test (is_applied l.stack chosen)
      (λ e. let two : chosen.status ≡ 2 = rw e at status in absurd (omega arith))
      (λ e. sym (found-any (λ x. eqb x chosen.slot) 0 l.stack) ∙ e)

  other-slot : (slot : ℕ) → eqb slot chosen.slot ≡ false → is_in slot chosen ≡ false
  other-slot slot e = ne_eqb chosen.slot slot λ same. eqb-false slot chosen.slot e (sym same)

  -- ---- it is unloaded

  abbrev left : List Loaded
  left = take i l.payloads ++ drop (suc i) l.payloads

  stack-left : (xs : List ℕ) → All (λ x. eqb x chosen.slot ≡ false) xs → All (Kept l.payloads left) xs
  stack-left [] h = tt
  stack-left (x ∷ xs) h = (kept-cut l.payloads i x inside (other-slot x h.0), stack-left xs h.1)

  job-left : (o : Option Job) → is_busy o 1 chosen ≡ false → KeptJob l.payloads left o
  job-left None h = tt
  job-left (Some j) h = kept-cut l.payloads i j.slot inside (other-slot j.slot h)

  unloaded : chosen.status ≡ 1 → is_busy l.job 1 chosen ≡ false → Parts (with_list left l)
  unloaded one idle =
      let others = all-fail (λ x. eqb x chosen.slot) l.stack (not-stacked one) in
      relisted l s left (stack-left l.stack others) (job-left l.job idle) _ (omega arith)
      (all-cut _ i l.payloads s.payloads)
      (apart-cut i l.payloads s.apart)
      (all-cut _ i l.payloads s.statuses)

  -- ---- it is the job's

  -- no job stands before it
  no-job : (command : ℕ) (o : Option Job) → eqb command 1 ≡ false → is_busy o command chosen ≡ false → o ≡ None
  no-job command None e idle = refl
  no-job command (Some j) e idle = let busy : true ≡ false = rw e at idle in never refl busy

  time-given : (time : ℕ) → 1 ≤ cond (eqb time 0) 30 time
  time-given time =
      by-test (eqb time 0)
      (λ e. rw e (omega arith))
      (λ e. let more : time ≡ 0 → ⊥ = eqb-false time 0 e in rw e (omega arith))

  module _ (command time : ℕ) (low : 1 ≤ command) (high : command ≤ 4) (acts : eqb command 1 ≡ false) (c : Conditioned l command chosen) where
    job-begun : JobParts l.start l.payloads l.stack (job_for l command chosen time)
    unfolding base_ok
    job-begun =
        let other : command ≡ 1 → ⊥ = eqb-false command 1 acts in
        let edits = (all-pick (is_in chosen.slot) _ l.payloads s.payloads own.0).edits_some in
        record {
          action_low = omega arith;
          action_high = high;
          loaded = own.0;
          top = λ e. rw own.1 (rw (eq-eqb command 2 e) at c.base);
          new = λ e. among-missing chosen.slot l.stack (not-stacked (c.status ∙ rw (ne_eqb command 2 e)));
          held = length-replicate l.start.cpus false;
          time_some = time-given time;
          steps_left = by-test (eqb command 2) (λ e. rw e (omega arith)) (λ e. rw e (omega arith));
          gathering = λ h. refl;
        }

    begun : is_busy l.job command chosen ≡ false → Parts (with_job (Some (job_for l command chosen time)) (changed_found (with_result 11) l (Some i)))
    begun idle =
        let none_before = no-job command l.job acts idle in
        let laid : l.laid ≡ expected_in l.payloads l.stack None = rw none_before at s.laid in
        let job : Job = job_for l command chosen time in
        let before = with-job l s (Some job) job-begun (laid ∙ sym (done_none l.payloads l.stack command chosen.slot)) in
        result-kept 11 (with_job (Some job) l) (Some i) before

-- ---- the call

module _ (l : Model) (s : Parts l) where
  refused-sound : (n : ℕ) (f : Option ℕ) → Parts (changed_found (with_result n) l f)
  refused-sound n f = subst⁻¹ Parts (changed-is n l f) (result-kept n l f s)

  module _ (name : List ℕ) (command time : ℕ) where
    -- the model after an action on the payload found
    abbrev acted_on : Option ℕ → Model
    acted_on f =
        cond (eqb command 1) (with_list (without f l.payloads) l)
        (with_job (Some (job_for l command (payload_found l f) time)) (changed_found (with_result 11) l f))

    unload-or-begin :
        (i : ℕ) → i < length l.payloads → 1 ≤ command → command ≤ 4 → is_busy l.job command (payload_found l (Some i)) ≡ false →
        Conditioned l command (payload_found l (Some i)) → (t : Bool) → eqb command 1 ≡ t → Parts (acted_on (Some i))
    unload-or-begin i inside low high idle c true e =
        let one : command ≡ 1 = eqb-true command 1 e in
        rw e (unloaded l s i inside (c.status ∙ rw one) (rw one at idle))
    unload-or-begin i inside low high idle c false e = rw e (begun l s i inside command time low high e c idle)

    acted-sound :
        Requested l name command → (f : Option ℕ) → with_name l name ≡ f → is_found f ≡ true → is_busy l.job command (payload_found l f) ≡ false →
        Conditioned l command (payload_found l f) → Parts (acted_on f)
    unfolding with_name
    acted-sound q None at found idle c = never found refl
    acted-sound q (Some i) at found idle c =
        let inside = (first-hit (λ p. equal p.name name) l.payloads no_payload i at).0 in
        unload-or-begin i inside q.low q.high idle c (eqb command 1) refl

    conditions-sound : Requested l name command → condition_rules l command (named l name) ≡ Ok tt → Parts (acted l name command time)
    conditions-sound q met = acted-sound q (with_name l name) refl q.found q.free (conditioned l command (named l name) met)

pub act-sound : (l : Model) (name : List ℕ) (command time : ℕ) → Parts l → Parts (act l name command time).model
unfolding act
act-sound l name command time s =
    decided _ _ (request_rules l name command) (λ r. s) λ asked.
    decided _ _ (condition_rules l command (named l name)) (λ r. refused-sound l s (number_of r.reason) (with_name l name)) λ met.
    conditions-sound l s name command time (requested l name command asked) met
