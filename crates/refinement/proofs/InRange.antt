-- A state that stands for a sound model is in its ranges, and its job has as many steps as the model's.
use Rattle.std.proofs.Common.{Option, None, Some}
use Prim.Native.Nat.{ℕ, ◌+◌, ◌-◌, ◌≤◌, ◌<◌}
use mathlib.Core.Path.{◌≡◌, refl, sym, ap, ap₂, subst, ◌∙◌}
use mathlib.Core.Bool.{Bool, true, false, cond, not, ◌&&◌, ◌||◌}
use mathlib.Core.List.{List, [], ◌∷◌, reverse}
use native.Mathlib.Omega.{arith}
use borrow.Author.Tests.{le-leb, lt-ltb, eq-eqb, ne_eqb, eqb-true, eqb-false}
use lib.Dec.{eqb, leb, ltb}
use lib.ListN.{length, length-append}
use lib.Seq.{take_at}
use Rattle.words.specs.Find.{every}
use Rattle.words.specs.Name.{is_found, zero_from}
use Rattle.words.proofs.Find.{every_map}
use Rattle.words.proofs.Tests.{three}
use Rattle.records.specs.Limits.{name_min, name_max}
use Rattle.records.specs.Name.{is_name, is_at}
use Rattle.records.specs.declared.payload.Edit.{Edit}
use Rattle.records.specs.declared.payload.EditKind.{EditKind}
use Rattle.records.specs.declared.payload.EditKind.TheVariants.{Jump, Fill}
use Rattle.machine.specs.Machine.{edit_max, kind_bytes, edit_bytes}
use Rattle.machine.specs.X86.{is_fill_size}
use Rattle.machine.specs.declared.processor.Processor.TheVariants.{X86_64}
use Rattle.machine.proofs.Laws.{lawful}
use Rattle.memory.specs.Config.{config_ok}
use Rattle.memory.specs.Memory.{slot_count}
use Rattle.state.specs.Find as state
use Rattle.state.specs.State.{revert, apply, replace, is_standing, stack_of}
use Rattle.state.specs.Steps as steps
use Rattle.state.specs.declared.state.State.{State}
use Rattle.state.specs.declared.steps.Step.{Step}
use Rattle.state.proofs.StepLaws.{length-layings, length-removals, length-removals-in, length-removals-none}
use Rattle.ranges.specs.Ranges.{is_edit_length, edit_in_range, name_in_range, ids_in_range, edits_in_range, is_status, payload_in_range, is_job_action, stack_fits, job_in_range, in_range}
use Rattle.model.specs.Model.{Start, Loaded, Job, Model, machine}
use Rattle.model.specs.Step as model
use Rattle.invariant.specs.Sound.{Missing, FittingEdit, SoundPayload, SoundJob, SoundJobs, Sound}
use Rattle.refinement.specs.Stands.{Loader, config_of, record_of, JobStands, JobsStand, StateStands, Stands}
use Rattle.refinement.proofs.Counting.{All-then, all_both, all-reverse, all-every, few-payloads, no-more-slots}
use Rattle.refinement.proofs.Lookups.{name-of-record, is-taken, payload-in, stack-of}

-- ---- tests

holds : {a b : Bool} → a ≡ true → b ≡ true → (a && b) ≡ true
holds {a} {b} h g = rw (h, g)

length-cond : {A : Type 0} (t : Bool) (xs ys : List A) → length (cond t xs ys) ≡ cond t (length xs) (length ys)
length-cond true xs ys = refl
length-cond false xs ys = refl

-- an action of a job is one of three
pub by-action : (P : ℕ → Type 0) (a : ℕ) → 2 ≤ a → a ≤ 4 → P revert → P apply → P replace → P a
by-action P a low high first second third = by_tests (eqb a revert) (eqb a apply) refl refl
  where
    by_tests : (t u : Bool) → eqb a revert ≡ t → eqb a apply ≡ u → P a
    by_tests true u e f = subst P (sym (eqb-true a revert e)) first
    by_tests false true e f = subst P (sym (eqb-true a apply f)) second
    by_tests false false e f =
        let not2 = eqb-false a revert e in
        let not3 = eqb-false a apply f in
        let same : replace ≡ a = omega arith in
        subst P same third

-- ---- steps

module _ {s : State} {l : Model} (k : StateStands s l) where
  pub edit_count : (slot : ℕ) → (state.payload_in s slot).edit_count ≡ length (model.payload_in l slot).edits
  unfolding record_of
  edit_count slot = ap (λ p. p.edit_count) (payload-in k slot)

  pub removals-count : (slots : List ℕ) → length (steps.removals_in s slots) ≡ model.edit_count l slots
  unfolding model.edit_count
  removals-count [] = length-removals-none s
  removals-count (slot ∷ older) = length-removals-in s slot older ∙ ap₂ ◌+◌ (edit_count slot) (removals-count older)

  abbrev removing_for : ℕ → ℕ → List Step
  removing_for action slot =
      cond (eqb action revert) (steps.removals (state.payload_in s slot))
      (cond (eqb action replace) (steps.removals_in s (reverse (stack_of s)))
      [])

  abbrev laying_for : ℕ → ℕ → List Step
  laying_for action slot = cond (eqb action apply || eqb action replace) (steps.layings (state.payload_in s slot)) []

  module _ {cpus : ℕ} {j : Job} (stands : JobStands cpus s.job j) where
    pub removal-count : length (steps.removing s) ≡ model.removal_count l j
    unfolding steps.removing
    removal-count =
        ap₂ (λ a slot. length (removing_for a slot)) stands.action stands.slot
        ∙ rw (length-cond (eqb j.action revert), length-cond (eqb j.action replace), length-removals, edit_count j.slot, k.stack, removals-count l.stack)

    pub laying-count : 2 ≤ j.action → j.action ≤ 4 → length (steps.laying s) ≡ model.laying_count l j
    unfolding steps.laying
    laying-count low high =
        ap₂ (λ a slot. length (laying_for a slot)) stands.action stands.slot
        ∙ by-action (λ a. length (laying_for a j.slot) ≡ cond (eqb a 2) 0 (length (model.payload_in l j.slot).edits)) j.action low high
        refl (length-layings _ ∙ edit_count j.slot) (length-layings _ ∙ edit_count j.slot)

    pub step_count : 2 ≤ j.action → j.action ≤ 4 → steps.step_count s ≡ model.step_count l j
    step_count low high =
        length-append (steps.removing s) (steps.laying s) ∙ ap₂ ◌+◌ removal-count (laying-count low high)

-- ---- an edit and a payload

module _ (a : Start) where
  kind-length : (kind : EditKind) (n : ℕ) → length (kind_bytes machine kind n) ≡ n → 1 ≤ n → n ≤ edit_max → is_edit_length machine kind n ≡ true
  unfolding is_fill_size
  kind-length (Jump d) n h low high = eq-eqb n machine.jump_length (sym h ∙ (lawful X86_64).jump_length d)
  kind-length Fill n h low high = holds (le-leb 1 n low) (le-leb n edit_max high)

  edit-fits : (e : Edit) → FittingEdit (length a.text) e → edit_in_range (config_of a) e ≡ true
  unfolding edit_in_range edit_bytes
  edit-fits e f =
      holds (kind-length e.kind e.length f.bytes f.some f.short) (le-leb (e.offset + e.length) (length a.text) f.inside)

  name-fits : (p : Loaded) → SoundPayload a p → name_in_range (record_of p) ≡ true
  unfolding name_in_range is_name record_of
  name-fits p h =
      let parts =
      three (leb name_min (length p.name)) (leb (length p.name) name_max) (is_at (length p.name - 1) (zero_from p.name 0)) h.named in
      holds parts.1 (ap is_name (name-of-record p) ∙ h.named)

  ids-fit : (p : Loaded) → SoundPayload a p → ids_in_range (record_of p) ≡ true
  unfolding ids_in_range record_of
  ids-fit p h =
      holds (holds (holds (le-leb _ _ h.id_some) (le-leb _ _ h.id_short)) (le-leb _ _ h.dependency_some)) (le-leb _ _ h.dependency_short)

  edits-fit : (p : Loaded) → SoundPayload a p → edits_in_range (config_of a) (record_of p) ≡ true
  unfolding edits_in_range record_of
  edits-fit p h =
      holds (holds (le-leb _ _ h.edits_some) (le-leb _ _ h.edits_few))
      (ap (every (edit_in_range (config_of a))) (take_at p.edits _ (length p.edits) refl)
      ∙ all-every (edit_in_range (config_of a)) p.edits (All-then _ _ edit-fits p.edits h.edits))

  status-fits : (t : Bool) (n : ℕ) → n ≡ cond t 2 1 → is_status n ≡ true
  unfolding is_status
  status-fits true n e = rw e
  status-fits false n e = rw e

  payload-fits : (stack : List ℕ) (p : Loaded) → SoundPayload a p → p.status ≡ cond (model.is_applied stack p) 2 1 → payload_in_range (config_of a) (record_of p) ≡ true
  unfolding payload_in_range record_of
  payload-fits stack p h status =
      holds (holds (holds (holds (lt-ltb _ _ h.slotted) (status-fits (model.is_applied stack p) p.status status)) (name-fits p h)) (ids-fit p h)) (edits-fit p h)

-- ---- the job and the state

module _ {s : State} {l : Model} (k : StateStands s l) (sound : Sound l) where
  -- no more payloads are applied than are loaded
  deep : length l.stack ≤ length l.payloads
  unfolding model.with_slot
  deep = no-more-slots l.stack l.payloads sound.different sound.stacked

  top-some : (stack : List ℕ) (p : Loaded) → model.is_top stack p ≡ true → 1 ≤ length stack
  top-some [] p h =
      let never : ◌≡◌ {A = ℕ} 0 1 = cc in
      absurd (omega arith)
  top-some (slot ∷ older) p h = omega arith

  module _ {j : Job} (stands : JobStands l.start.cpus s.job j) (good : SoundJob l j) where
    abbrev fits_for : ℕ → Bool
    fits_for a = cond (eqb a revert) (leb 1 s.depth) (cond (eqb a apply) (ltb s.depth s.count) true)

    -- a payload that is not on the stack has room on it
    room : Missing j.slot l.stack → length l.stack < length l.payloads
    unfolding model.with_slot
    room missing = no-more-slots (j.slot ∷ l.stack) l.payloads (missing, sound.different) (good.loaded, sound.stacked)

    stack-fits : stack_fits s ≡ true
    unfolding stack_fits
    stack-fits =
        ap fits_for stands.action
        ∙ by-action (λ a. j.action ≡ a → fits_for a ≡ true) j.action good.action_low good.action_high
        (λ e. le-leb 1 s.depth (omega (arith, k.depth, top-some l.stack (model.payload_in l j.slot) (good.top e))))
        (λ e. lt-ltb s.depth s.count (omega (arith, k.depth, k.count, room (good.new (λ f. omega arith)))))
        (λ e. refl)
        refl

    job-fits : job_in_range s ≡ true
    unfolding job_in_range is_job_action
    job-fits =
        holds
        (holds
        (holds
        (holds
        (holds (le-leb revert s.job.action (omega (arith, stands.action, good.action_low))) (le-leb s.job.action replace (omega (arith, stands.action, good.action_high))))
        (is-taken k s.job.slot ∙ ap (λ (slot : ℕ). is_found (model.with_slot l slot)) stands.slot ∙ good.loaded))
        stack-fits)
        (le-leb 1 s.job.time (omega (arith, stands.time, good.time_some))))
        (lt-ltb s.job.steps (steps.step_count s) (omega (arith, stands.steps, good.steps, step_count k stands good.action_low good.action_high)))

  -- whether a job stands
  pub standing :
      (o : Option Job) → JobsStand l.start.cpus s.job o → SoundJobs l o → is_standing s.job ≡ model.is_standing o
  standing None stands good = rw (eq-eqb s.job.action 0 stands)
  standing (Some j) stands good = rw (ne_eqb s.job.action 0 (λ e. omega (arith, stands.action, good.action_low)))

  job-in-range :
      (o : Option Job) → JobsStand l.start.cpus s.job o → SoundJobs l o → (not (is_standing s.job) || job_in_range s) ≡ true
  job-in-range None stands good = rw (standing None stands good)
  job-in-range (Some j) stands good = rw (standing (Some j) stands good) (job-fits stands good)

  pub state-in-range : config_ok (config_of l.start) ≡ true → in_range s ≡ true
  unfolding in_range
  state-in-range accepted =
      holds
      (holds
      (holds
      (holds
      (holds (ap config_ok k.config ∙ accepted)
      (le-leb s.count slot_count (omega (arith, k.count, few-payloads l.start l.payloads sound.payloads sound.apart))))
      (ap₂ (λ c ps. every (payload_in_range c) ps) k.config k.payloads
      ∙ every_map (payload_in_range (config_of l.start)) record_of l.payloads
      ∙ all-every _ l.payloads (all_both _ _ _ (payload-fits l.start l.stack) l.payloads sound.payloads sound.statuses)))
      (le-leb s.depth s.count (omega (arith, k.depth, k.count, deep))))
      (ap (every (state.is_taken s)) (stack-of k)
      ∙ all-every (state.is_taken s) (reverse l.stack)
      (all-reverse _ l.stack (All-then _ _ (λ slot e. is-taken k slot ∙ e) l.stack sound.stacked))))
      (job-in-range l.job k.job sound.job)

pub in-range : {u : Loader} {l : Model} → Stands u l → Sound l → in_range u.state ≡ true
in-range k sound = state-in-range k.state sound k.accepted
