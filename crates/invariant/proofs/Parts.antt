-- A sound model by its parts, said of its lists: what is left to show of a model is the parts, and that its edits fit and are laid once follows.
use Rattle.records.specs.Refusal.{Verdict}
use Rattle.std.proofs.Common.{Ok, Err, Option, None, Some}
use Prim.Native.Nat.{ℕ, ◌-◌, ◌≤◌, ◌<◌, ◌^◌, min}
use mathlib.Core.Path.{◌≡◌, refl, sym, ◌∙◌}
use mathlib.Core.Bool.{true, false}
use mathlib.Core.List.{List}
use native.Mathlib.Omega.{arith}
use borrow.Author.Tests.{eqb-false}
use lib.Dec.{eqb}
use lib.ListN.{length, drop}
use Rattle.records.specs.Verdict.{decide}
use Rattle.records.specs.declared.refusal.Refusal.{Refusal}
use Rattle.model.specs.Model.{Start, Loaded, Laid, Job, Model}
use Rattle.model.specs.Step.{is_top, is_complete, Told}
use Rattle.invariant.specs.Done.{first_edits, expected}
use Rattle.invariant.specs.Sound.{
  All,
  SoundStart,
  SoundPayload,
  Apart,
  HasStatus,
  Missing,
  Different,
  Once,
  FittingLaid,
  SoundJob,
  SoundJobs,
  Sound,
}
use Rattle.invariant.proofs.Lists.{by-test, all_append, all_drop, all-as}
use Rattle.invariant.proofs.Slots.{is_in, holds, in_slot, all-pick, slot-holds, payload-in}
use Rattle.invariant.proofs.Edits.{edits_in, removals, steps, done, first-none, edits-in, steps-in, done-in}
use Rattle.invariant.proofs.Laid.{first-fit, stack-fit, over-once, once-drop, stack-once}

-- every slot of the stack is taken
abbrev pub Stacked : List Loaded → List ℕ → Type 0
Stacked ps stack = All (λ slot. holds slot ps ≡ true) stack

pub record JobParts (a : Start) (ps : List Loaded) (stack : List ℕ) (j : Job) : Type 0 where
  pub action_low : 2 ≤ j.action
  pub action_high : j.action ≤ 4
  pub loaded : holds j.slot ps ≡ true
  pub top : j.action ≡ 2 → is_top stack (in_slot j.slot ps) ≡ true
  pub new : (j.action ≡ 2 → ⊥) → Missing j.slot stack
  pub held : length j.held ≡ a.cpus
  pub time_some : 1 ≤ j.time
  pub steps_left : j.steps < steps ps stack j.action j.slot
  pub gathering : is_complete j ≡ false → j.steps ≡ 0

abbrev pub JobsParts : Start → List Loaded → List ℕ → Option Job → Type 0
JobsParts a ps stack None = Unit {0}
JobsParts a ps stack (Some j) = JobParts a ps stack j

abbrev pub expected_in : List Loaded → List ℕ → Option Job → List Laid
expected_in ps stack None = edits_in ps stack
expected_in ps stack (Some j) = done ps stack j.action j.slot j.steps

pub record Parts (l : Model) : Type 0 where
  pub start : SoundStart l.start
  pub version : l.version < 2 ^ 32
  pub payloads : All (SoundPayload l.start) l.payloads
  pub apart : Apart l.payloads
  pub stacked : Stacked l.payloads l.stack
  pub different : Different l.stack
  pub statuses : All (HasStatus l.stack) l.payloads
  pub job : JobsParts l.start l.payloads l.stack l.job
  pub laid : l.laid ≡ expected_in l.payloads l.stack l.job

-- ---- the parts of a sound model

module _ (l : Model) where
  job-parts : (j : Job) → SoundJob l j → JobParts l.start l.payloads l.stack j
  job-parts j s =
      record {
        action_low = s.action_low;
        action_high = s.action_high;
        loaded = rw (slot-holds l j.slot) at s.loaded;
        top = λ e. rw (payload-in l j.slot) at (s.top e);
        new = s.new;
        held = s.held;
        time_some = s.time_some;
        steps_left = rw (steps-in l j) at s.steps;
        gathering = s.gathering;
      }

  sound-job : (j : Job) → JobParts l.start l.payloads l.stack j → SoundJob l j
  sound-job j s =
      record {
        action_low = s.action_low;
        action_high = s.action_high;
        loaded = rw (slot-holds l j.slot) s.loaded;
        top = λ e. rw (payload-in l j.slot) (s.top e);
        new = s.new;
        held = s.held;
        time_some = s.time_some;
        steps = rw (steps-in l j) s.steps_left;
        gathering = s.gathering;
      }

  jobs-parts : (o : Option Job) → SoundJobs l o → JobsParts l.start l.payloads l.stack o
  jobs-parts None s = tt
  jobs-parts (Some j) s = job-parts j s

  sound-jobs : (o : Option Job) → JobsParts l.start l.payloads l.stack o → SoundJobs l o
  sound-jobs None s = tt
  sound-jobs (Some j) s = sound-job j s

  expected-in : (o : Option Job) → expected l o ≡ expected_in l.payloads l.stack o
  expected-in None = edits-in l l.stack
  expected-in (Some j) = done-in l j j.steps

  pub parts : Sound l → Parts l
  parts s =
      record {
        start = s.start;
        version = s.version;
        payloads = s.payloads;
        apart = s.apart;
        stacked = all-as _ _ (λ slot h. sym (slot-holds l slot) ∙ h) l.stack s.stacked;
        different = s.different;
        statuses = s.statuses;
        job = jobs-parts l.job s.job;
        laid = s.laid ∙ expected-in l.job;
      }

-- ---- they are enough

-- how many of its payload's edits a job has laid, and how many it has taken off
module _ (a : Start) (ps : List Loaded) (stack : List ℕ) (j : Job) (s : JobParts a ps stack j) where
  abbrev laid_count : ℕ
  laid_count = j.steps - removals ps stack j.action j.slot

  abbrev taken_count : ℕ
  taken_count = min j.steps (removals ps stack j.action j.slot)

  -- a revert lays none
  revert-lays : eqb j.action 2 ≡ true → laid_count ≡ 0
  revert-lays e =
      let left = rw e at s.steps_left in
      rw e (omega arith)

  -- and no job more than there are
  lays-few : laid_count ≤ length (in_slot j.slot ps).edits
  lays-few =
      by-test (eqb j.action 2)
      (λ e. rw (revert-lays e) (omega arith))
      (λ e. let left = rw e at s.steps_left in rw e (omega arith))

module _ (a : Start) (ps : List Loaded) (stack : List ℕ) (sound : All (SoundPayload a) ps) (stacked : Stacked ps stack) (different : Different stack) where
  fitting-in : (o : Option Job) → JobsParts a ps stack o → All (FittingLaid (length a.text)) (expected_in ps stack o)
  fitting-in None s = stack-fit a ps sound stack stacked
  fitting-in (Some j) s =
      let own = all-pick (is_in j.slot) (SoundPayload a) ps sound s.loaded in
      let k : ℕ = taken_count a ps stack j s in
      all_append _ (first_edits (in_slot j.slot ps) (laid_count a ps stack j s)) (drop k (edits_in ps stack))
      (first-fit a (in_slot j.slot ps) own (laid_count a ps stack j s) (lays-few a ps stack j s))
      (all_drop _ k (edits_in ps stack) (stack-fit a ps sound stack stacked))

  once-in : (o : Option Job) → JobsParts a ps stack o → Once (expected_in ps stack o)
  once-in None s = stack-once ps stack different stacked
  once-in (Some j) s =
      let all = stack-once ps stack different stacked in
      by-test (eqb j.action 2)
      (λ e. rw (revert-lays a ps stack j s e, first-none (in_slot j.slot ps)) (once-drop (taken_count a ps stack j s) (edits_in ps stack) all))
      (λ e. over-once ps j.slot (taken_count a ps stack j s) stack (s.new (eqb-false j.action 2 e)) s.loaded stacked (laid_count a ps stack j s) all)

pub sound : (l : Model) → Parts l → Sound l
sound l s =
    record {
      start = s.start;
      version = s.version;
      payloads = s.payloads;
      apart = s.apart;
      stacked = all-as _ _ (λ slot h. slot-holds l slot ∙ h) l.stack s.stacked;
      different = s.different;
      statuses = s.statuses;
      job = sound-jobs l l.job s.job;
      laid = s.laid ∙ sym (expected-in l l.job);
      fitting = rw s.laid (fitting-in l.start l.payloads l.stack s.payloads s.stacked s.different l.job s.job);
      once = rw s.laid (once-in l.start l.payloads l.stack s.payloads s.stacked s.different l.job s.job);
    }

-- a call that is decided by rules keeps the parts where a refusal and an acceptance do
pub decided :
    (refused : Refusal → Told) (accepted : Told) (v : Verdict) → ((r : Refusal) → Parts (refused r).model) → (v ≡ Ok tt → Parts accepted.model) →
    Parts (decide refused accepted v).model
decided refused accepted (Ok _) no_way way = way refl
decided refused accepted (Err r) no_way way = no_way r
