-- A work step gives the model's reply, and leaves what stands for the model after it.
use Rattle.std.proofs.Common.{Option, None, Some}
use Prim.Native.Nat.{ℕ, ◌+◌, ◌-◌}
use mathlib.Core.Path.{◌≡◌, refl, sym, ap, ap₂, subst, ◌∙◌}
use mathlib.Core.Bool.{Bool, true, false, cond}
use mathlib.Core.List.{List, ◌∷◌}
use borrow.Author.Tests.{eq-eqb, ltb-true, ltb-false}
use lib.Dec.{eqb, ltb}
use lib.ListN.{length, drop}
use Rattle.words.specs.Splice.{splice}
use Rattle.records.specs.Verdict.{must}
use Rattle.records.specs.declared.refusal.Place.TheVariants.{Nowhere}
use Rattle.machine.specs.Host.{machine_of}
use Rattle.memory.specs.Memory.{undo_size}
use Rattle.state.specs.State as kept
use Rattle.state.specs.Steps as steps
use Rattle.state.specs.declared.state.State.{State}
use Rattle.state.specs.declared.steps.Step.{Step}
use Rattle.steps.specs.Next as stepping
use Rattle.work.specs.Work as work
use Rattle.model.specs.Calls.{Says, Work}
use Rattle.model.specs.Memory.{text_with, undo_with}
use Rattle.model.specs.Model.{Laid, Job, Model, machine}
use Rattle.model.specs.Step as model
use Rattle.invariant.specs.Done.{expected}
use Rattle.invariant.specs.Sound.{All, FittingLaid, Unlaid, Once, SoundJob, SoundJobs, Sound}
use Rattle.refinement.specs.Stands.{Loader, JobStands, JobsStand, Stands}
use Rattle.refinement.proofs.Agrees.{decide-agrees}
use Rattle.refinement.proofs.Ended.{with_written, ended-stands}
use Rattle.refinement.proofs.InRange.{in-range, standing, step_count}
use Rattle.refinement.proofs.Rendezvous.{complete}
use Rattle.refinement.proofs.Steps.{step_of, taking, laying-now}
use Rattle.refinement.proofs.Undo.{text_length, undo-length, text-off, saved, undo-off}

-- a work step against what the model is told: the reply, and what is left
abbrev pub Agrees : Loader → work.Worked → model.Told → Type 0
Agrees u x y = (Says x.answer ≡ y.reply) × Stands (with_written x.state x.after.text x.after.undo u) y.model

-- ---- text and undo store

module _ (text : List ℕ) where
  abbrev lent_with : List Laid → work.Lent
  lent_with xs = work.lent (text_with text xs) (undo_with text xs)

  -- an edit laid
  laid-made : (x : Laid) (older : List Laid) → work.made machine (step_of true x) (lent_with older) ≡ lent_with (x ∷ older)
  unfolding work.laid text_with undo_with
  laid-made x older = refl

  -- the newest taken off
  off-made :
      (x : Laid) (older : List Laid) → All (FittingLaid (length text)) (x ∷ older) → Unlaid x.slot x.number older →
      work.made machine (step_of false x) (lent_with (x ∷ older)) ≡ lent_with older
  unfolding work.taken_off
  off-made x older fit once =
      ap₂ work.lent
      (ap (splice (text_with text (x ∷ older)) x.edit.offset) (saved text x older fit) ∙ text-off text x older fit)
      (undo-off text x older fit once)

-- the same test decides on both sides
either-stands :
    (u : Loader) {s s' : State} {text undo : List ℕ} {m m' : Model} {t t' : Bool} → t ≡ t' → Stands (with_written s text undo u) m →
    Stands (with_written s' text undo u) m' → Stands (with_written (cond t s s') text undo u) (cond t' m m')
either-stands u {s} {s'} {text} {undo} {m} {m'} {t} {t'} e first second =
    subst (λ (b : Bool). Stands (with_written (cond t s s') text undo u) (cond b m m')) e (by_cases t)
  where
    by_cases : (t : Bool) → Stands (with_written (cond t s s') text undo u) (cond t m m')
    by_cases true = first
    by_cases false = second

module _ {u : Loader} {l : Model} (k : Stands u l) (sound : Sound l) where
  abbrev text₀ : List ℕ
  text₀ = l.start.text

  abbrev here : work.Lent
  here = work.lent u.text u.undo

  lent_is : here ≡ lent_with text₀ l.laid
  lent_is = ap₂ work.lent k.text k.undo

  -- ---- the checks

  sizes-ok : work.work_sizes_ok u.state (length u.text) (length u.undo) ≡ true
  unfolding work.work_sizes_ok
  sizes-ok =
      let text : length u.text ≡ u.state.config.text_length =
      ap length k.text ∙ text_length text₀ l.laid sound.fitting ∙ sym (ap (λ c. c.text_length) k.state.config) in
      let undo : length u.undo ≡ undo_size = ap length k.undo ∙ undo-length text₀ l.laid sound.fitting in
      rw (in-range k sound, eq-eqb _ _ text, eq-eqb _ _ undo)

  module _ {j : Job} (is : l.job ≡ Some j) (job : JobStands l.start.cpus u.state.job j) (good : SoundJob l j) where
    -- ---- one edit

    abbrev laid_now : List Laid
    laid_now = model.laid_after l j

    made-is : work.made (machine_of u.state.config.processor) (stepping.step_now u.state) here ≡ lent_with text₀ laid_now
    made-is =
        ap (λ c. work.made (machine_of c.processor) (stepping.step_now u.state) here) k.state.config
        ∙ ap (work.made machine (stepping.step_now u.state)) lent_is
        ∙ by_cases (ltb j.steps (model.removal_count l j)) refl
      where
        by_cases :
            (t : Bool) → ltb j.steps (model.removal_count l j) ≡ t →
            work.made machine (stepping.step_now u.state) (lent_with text₀ l.laid) ≡
            lent_with text₀ (cond t (drop 1 l.laid) (model.laid_from (model.payload_in l j.slot) (j.steps - model.removal_count l j) ∷ l.laid))
        by_cases true t =
            let now = taking k.state job good (sound.laid ∙ ap (expected l) is) (ltb-true _ _ t) in
            let x : Laid = now.0 in
            let older : List Laid = now.1 in
            let newest : l.laid ≡ x ∷ older = now.2 in
            ap₂ (work.made machine) now.3 (ap (lent_with text₀) newest)
            ∙ off-made text₀ x older (subst (All (FittingLaid (length text₀))) newest sound.fitting) (subst Once newest sound.once).0
            ∙ ap (λ (xs : List Laid). lent_with text₀ (drop 1 xs)) (sym newest)
        by_cases false t =
            ap (λ (step : Step). work.made machine step (lent_with text₀ l.laid)) (laying-now k.state job good (ltb-false _ _ t))
            ∙ laid-made text₀ _ l.laid

    -- ---- the state after it

    -- the job goes on
    going_on :
        Stands
        (with_written (kept.with_job (stepping.with_steps (u.state.job.steps + 1) u.state.job) u.state) (text_with text₀ laid_now) (undo_with text₀ laid_now) u)
        (model.with_job (Some (model.with_steps (j.steps + 1) j)) (model.with_laid laid_now l))
    going_on = record {
      accepted = k.accepted;
      state = record {
        config = k.state.config;
        version = k.state.version;
        count = k.state.count;
        payloads = k.state.payloads;
        depth = k.state.depth;
        stack = k.state.stack;
        job = record {
          action = job.action;
          slot = job.slot;
          held = job.held;
          time = job.time;
          steps = ap (λ (n : ℕ). n + 1) job.steps;
        };
        payloads_whole = k.state.payloads_whole;
        stack_whole = k.state.stack_whole;
        held_whole = k.state.held_whole;
      };
      text = refl;
      arena = k.arena;
      undo = refl;
      ids = k.ids;
      build_id = k.build_id;
    }

    worked-stands : Stands (with_written (stepping.worked u.state) (text_with text₀ laid_now) (undo_with text₀ laid_now) u) (model.worked l j)
    unfolding stepping.worked
    worked-stands =
        let same : eqb (u.state.job.steps + 1) (steps.step_count u.state) ≡ eqb (j.steps + 1) (model.step_count l j) =
        ap₂ (λ (a b : ℕ). eqb (a + 1) b) job.steps (step_count k.state job good.action_low good.action_high) in
        either-stands u same ended_here going_on
      where
        ended_here : Stands (with_written (stepping.ended u.state) (text_with text₀ laid_now) (undo_with text₀ laid_now) u) (model.ended (model.with_laid laid_now l) j)
        ended_here = ended-stands k job sound good laid_now _ _ refl refl

  -- ---- the call

  work-with :
      (o : Option Job) → l.job ≡ o → JobsStand l.start.cpus u.state.job o → SoundJobs l o →
      Agrees u (work.work_of u.state here) (model.work_with l o)
  unfolding work.work_of work.work_rules
  work-with None is stands good = rw (sizes-ok, standing k.state sound None stands good) (refl, k)
  work-with (Some j) is stands good =
      rw (sizes-ok, standing k.state sound (Some j) stands good, complete k sound j stands)
      (decide-agrees (Agrees u) (must (model.is_complete j) 16 Nowhere) (λ r. (refl, k)) λ pass. (
        refl,
        subst (λ (left : work.Lent). Stands (with_written (stepping.worked u.state) left.text left.undo u) (model.worked l j))
            (sym (made-is is stands good)) (worked-stands is stands good),
      ))

  pub work-agrees : Agrees u (work.work_of u.state here) (model.step l Work)
  unfolding model.step
  work-agrees = work-with l.job refl k.state.job sound.job
