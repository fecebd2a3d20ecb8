-- What the model's jobs do: when the stack changes, and in how many work steps a job ends.
use Rattle.std.proofs.Common.{Some, None, Option, ℕ, Ok, Err}
use Prim.Native.Nat.{ℕ, zero, suc, ◌+◌, ◌-◌, ◌*◌, ◌≤◌, ◌<◌, min}
use mathlib.Core.Path.{◌≡◌, refl, sym, ap, ap₂, subst, subst⁻¹, ◌∙◌}
use mathlib.Core.Bool.{Bool, true, false, cond, false≢true}
use mathlib.Core.Logic.{◌⊎◌, inl, inr, ⊎_elim, ◌↔◌}
use mathlib.Core.List.{List, [], ◌∷◌, ◌++◌}
use native.Mathlib.Omega.{arith}
use borrow.Author.Tests.{eqb-true, eqb-false, eq-eqb, ne_eqb}
use lib.Dec.{eqb, ltb}
use lib.ListN.{length, replicate}
use Rattle.words.specs.Scan.{scan}
use Rattle.records.specs.Limits.{records_max}
use Rattle.records.specs.Refusal.{number_of, Verdict}
use Rattle.records.specs.Verdict.{must, decide}
use Rattle.records.specs.declared.refusal.Place.TheVariants.{Nowhere}
use Rattle.model.specs.Calls.{Call, Upload, Get, ListFrom, Act, Report, Tick, Work, TopId, Says}
use Rattle.memory.specs.Memory.{slot_count}
use Rattle.model.specs.Memory.{text_with}
use Rattle.model.specs.Model.{Loaded, Laid, Job, Model}
use Rattle.model.specs.Step.{Told, told, changed_found, with_name, named, with_result, with_list, loaded_from, upload_rules, request_rules, condition_rules, with_slot, payload_found, payload_in, edit_count, with_laid, with_job, with_steps, is_standing, is_complete, removal_count, step_count, laid_after, stack_after, worked, work_with, tick_with, report_with, upload, act, acted, step, after}
use Rattle.invariant.specs.Done.{first_edits, stack_edits, done_after, expected}
use Rattle.invariant.specs.Jobs.{LastStep, NoneComplete, Jobs}
use Rattle.invariant.specs.Sound.{Sound, SoundJob, SoundJobs}

-- ---- the stack

module _ (l : Model) where
  -- the stack is as it was
  abbrev Kept : Model → Type 0
  Kept m = m.stack ≡ l.stack

  abbrev KeptBy : Told → Type 0
  KeptBy t = Kept t.model

  changed-kept : (f : Loaded → Loaded) (at : Option ℕ) → Kept (changed_found f l at)
  changed-kept f (Some i) = refl
  changed-kept f None = refl

  upload-kept : (name list file : List ℕ) → KeptBy (upload l name list file)
  unfolding upload
  upload-kept name list file = by-verdict (upload_rules l name list file)
    where
      by-verdict :
          (v : Verdict) →
          KeptBy (decide (λ r. told l (Says (Err r))) (told (with_list (l.payloads ++ (loaded_from l name list file ∷ [])) l) (Says (Ok tt))) v)
      by-verdict (Ok _) = refl
      by-verdict (Err r) = refl

  acted-kept : (name : List ℕ) (command time : ℕ) (b : Bool) → eqb command 1 ≡ b → Kept (acted l name command time)
  acted-kept name command time true e = rw e refl
  acted-kept name command time false e = rw e (changed-kept (with_result 11) (with_name l name))

  act-kept : (name : List ℕ) (command time : ℕ) → KeptBy (act l name command time)
  unfolding act
  act-kept name command time = by-request (request_rules l name command)
    where
      by_condition :
          (v : Verdict) →
          KeptBy
          (decide
          (λ r. told (changed_found (with_result (number_of r.reason)) l (with_name l name)) (Says (Err r)))
          (told (acted l name command time) (Says (Ok tt))) v)
      by_condition (Ok _) = acted-kept name command time (eqb command 1) refl
      by_condition (Err r) = changed-kept (with_result (number_of r.reason)) (with_name l name)

      by-request :
          (v : Verdict) →
          KeptBy
          (decide (λ r. told l (Says (Err r)))
          (decide
          (λ r. told (changed_found (with_result (number_of r.reason)) l (with_name l name)) (Says (Err r)))
          (told (acted l name command time) (Says (Ok tt)))
          (condition_rules l command (named l name)))
          v)
      by-request (Ok _) = by_condition (condition_rules l command (named l name))
      by-request (Err r) = refl

  report-kept : (j : Option Job) (cpu : ℕ) → KeptBy (report_with l j cpu)
  report-kept None cpu = refl
  report-kept (Some j) cpu = by-test (ltb cpu l.start.cpus) refl
    where
      by-test : (b : Bool) → ltb cpu l.start.cpus ≡ b → KeptBy (report_with l (Some j) cpu)
      by-test true e = rw e refl
      by-test false e = rw e refl

  tick-kept : (j : Option Job) → KeptBy (tick_with l j)
  tick-kept None = refl
  tick-kept (Some j) = by_tests (is_complete j) refl (eqb j.time 1) refl
    where
      by_tests : (b : Bool) → is_complete j ≡ b → (c : Bool) → eqb j.time 1 ≡ c → KeptBy (tick_with l (Some j))
      by_tests true e c h = rw e refl
      by_tests false e true h = rw (e, h) (changed-kept (with_result 16) (with_slot l j.slot))
      by_tests false e false h = rw (e, h) refl

  abbrev Settled : Option Job → Type 0
  Settled j = KeptBy (work_with l j) ⊎ ((k : Job) × (j ≡ Some k) × (is_complete k ≡ true) × (k.steps + 1 ≡ step_count l k)
      × ((work_with l j).model.stack ≡ stack_after k.action k.slot l.stack))

  work-last : (j : Job) (b : Bool) → is_complete j ≡ b → (last : Bool) → eqb (j.steps + 1) (step_count l j) ≡ last → Settled (Some j)
  work-last j false e last h = rw e (inl refl)
  work-last j true e false h = rw (e, h) (inl refl)
  work-last j true e true h = rw (e, h) (inr (j, refl, e, eqb-true _ _ h, refl))

  work-settled : (j : Option Job) → Settled j
  work-settled None = inl refl
  work-settled (Some j) = work-last j (is_complete j) refl (eqb (j.steps + 1) (step_count l j)) refl

stack-settled : (l : Model) (c : Call) → ((step l c).model.stack ≡ l.stack) ⊎ LastStep l c
unfolding step
stack-settled l (Upload name list file) = inl (upload-kept l name list file)
stack-settled l (Get name) = inl refl
stack-settled l (ListFrom idx nr b) = inl refl
stack-settled l (Act name command time) = inl (act-kept l name command time)
stack-settled l (Report cpu) = inl (report-kept l l.job cpu)
stack-settled l Tick = inl (tick-kept l l.job)
stack-settled l Work =
    ⊎_elim inl
    (λ w. inr (record { job = w.0; stands = w.1; work = refl; complete = w.2; last = w.3; stack = w.4 }))
    (work-settled l l.job)
stack-settled l TopId = inl refl

-- ---- the steps

-- a job that stands is one
standing : {j : Job} → Some j ≡ None → ⊥
standing e = false≢true (sym (ap is_standing e))

-- one work step in a complete rendezvous: the job goes on by one step, or ends
module _ (l : Model) (j : Job) (stands : l.job ≡ Some j) (complete : is_complete j ≡ true) where
  abbrev next : Model
  next = with_job (Some (with_steps (j.steps + 1) j)) (with_laid (laid_after l j) l)

  is-worked : (step l Work).model ≡ worked l j
  unfolding step
  is-worked =
      ap (λ (o : Option Job). (work_with l o).model) stands
      ∙ ap (λ (b : Bool). (decide (λ r. told l (Says (Err r))) (told (worked l j) (Says (Ok tt))) (must b 16 Nowhere)).model) complete

  goes_on : (j.steps + 1 ≡ step_count l j → ⊥) → (step l Work).model ≡ next
  goes_on h = is-worked ∙ rw (ne_eqb (j.steps + 1) (step_count l j) h) refl

  ends : j.steps + 1 ≡ step_count l j → (step l Work).model.job ≡ None
  ends h = ap (λ (m : Model). m.job) is-worked ∙ rw (eq-eqb (j.steps + 1) (step_count l j) h) refl

-- with no job a work step is refused
stays-ended : (n : ℕ) (l : Model) → l.job ≡ None → (after l (replicate n Work)).job ≡ None
unfolding after step
stays-ended zero l e = e
stays-ended (suc n) l e =
    let same : (work_with l l.job).model ≡ l = ap (λ (o : Option Job). (work_with l o).model) e in
    subst⁻¹ (λ (m : Model). (after m (replicate n Work)).job ≡ None) same (stays-ended n l e)

-- a step leaves the job as many edits as it has
module _ (l : Model) (o : Option Job) (xs : List Laid) where
  same-found : (at : Option ℕ) → payload_found (with_job o (with_laid xs l)) at ≡ payload_found l at
  same-found (Some i) = refl
  same-found None = refl

  same-payload : (slot : ℕ) → payload_in (with_job o (with_laid xs l)) slot ≡ payload_in l slot
  unfolding with_slot
  same-payload slot = same-found (with_slot l slot)

  same_count : (slots : List ℕ) → edit_count (with_job o (with_laid xs l)) slots ≡ edit_count l slots
  unfolding edit_count
  same_count [] = refl
  same_count (slot ∷ older) = ap₂ (λ (p : Loaded) (n : ℕ). length p.edits + n) (same-payload slot) (same_count older)

  same-steps : (j : Job) (n : ℕ) → step_count (with_job o (with_laid xs l)) (with_steps n j) ≡ step_count l j
  same-steps j n =
      ap₂
      (λ (p : Loaded) (count : ℕ).
      cond (eqb j.action 2) (length p.edits) (cond (eqb j.action 4) count 0) + cond (eqb j.action 2) 0 (length p.edits))
      (same-payload j.slot) (same_count l.stack)

-- what one step more makes of it
abbrev EndsIn : ℕ → Model → Job → Type 0
EndsIn n l j = ((after l (replicate n Work)).job ≡ None) ↔ (step_count l j ≤ j.steps + n)

ending-more :
    (n : ℕ) (l : Model) (j : Job) (stands : l.job ≡ Some j) (complete : is_complete j ≡ true) → j.steps < step_count l j →
    (j.steps + 1 < step_count l j → EndsIn n (next l j stands complete) (with_steps (j.steps + 1) j)) →
    (last : Bool) → eqb (j.steps + 1) (step_count l j) ≡ last → EndsIn (suc n) l j
unfolding after
ending-more n l j stands complete h later true e =
    let last = eqb-true (j.steps + 1) (step_count l j) e in
    (λ _. omega (arith, last), λ _. stays-ended n _ (ends l j stands complete last))
ending-more n l j stands complete h later false e =
    let on = eqb-false (j.steps + 1) (step_count l j) e in
    let same = same-steps l (Some (with_steps (j.steps + 1) j)) (laid_after l j) j (j.steps + 1) in
    let g = later (omega (arith, on)) in
    subst⁻¹
    (λ (m : Model). ((after m (replicate n Work)).job ≡ None) ↔ (step_count l j ≤ j.steps + suc n))
    (goes_on l j stands complete on)
    (λ x. omega (arith, same, g.0 x), λ x. g.1 (omega (arith, same, x)))

-- the job ends in as many work steps as are left of it, and no earlier
ending : (n : ℕ) (l : Model) (j : Job) → l.job ≡ Some j → is_complete j ≡ true → j.steps < step_count l j → EndsIn n l j
unfolding after
ending zero l j stands complete h = (λ e. absurd (standing (sym stands ∙ e)), λ g. absurd (omega arith))
ending (suc n) l j stands complete h =
    ending-more n l j stands complete h (λ more. ending n _ _ refl complete (rw (same-steps l (Some (with_steps (j.steps + 1) j)) (laid_after l j) j (j.steps + 1)) more)) (eqb (j.steps + 1) (step_count l j)) refl

-- ---- all of it, of a model that is sound

-- before the rendezvous is complete no step is done
none_done : (l : Model) (j : Job) → done_after l j 0 ≡ stack_edits l l.stack
unfolding done_after first_edits scan
none_done l j =
    let no-laying : 0 - removal_count l j ≡ 0 = omega arith in
    let no-removal : min 0 (removal_count l j) ≡ 0 = omega arith in
    rw (no-laying, no-removal) refl

gathered : (l : Model) (o : Option Job) → SoundJobs l o → NoneComplete o → expected l o ≡ stack_edits l l.stack
gathered l None sound h = refl
gathered l (Some j) sound h = ap (done_after l j) (sound.gathering h) ∙ none_done l j

module _ (l : Model) (sound : Sound l) (few : (j : Job) → l.job ≡ Some j → step_count l j ≤ slot_count * records_max) where
  sound-job : {j : Job} → l.job ≡ Some j → SoundJob l j
  sound-job stands = subst (SoundJobs l) stands sound.job

  pub jobs : Jobs l
  jobs =
      record {
        stack = stack-settled l;
        gathering = λ h. ap (text_with l.start.text) (sound.laid ∙ gathered l l.job sound.job h);
        working = λ j stands complete. sound.laid ∙ ap (expected l) stands;
        ending = λ j stands complete n. ending n l j stands complete (sound-job stands).steps;
        few = few;
      }
