-- A report and a tick keep a sound model sound.
use Rattle.std.proofs.Common.{Option, None, Some}
use Prim.Native.Nat.{ℕ, zero, suc, ◌-◌, ◌≤◌, ◌<◌}
use mathlib.Core.Path.{◌≡◌, ◌∙◌, subst⁻¹}
use mathlib.Core.Bool.{Bool, true, false}
use mathlib.Core.List.{List, [], ◌∷◌}
use native.Mathlib.Omega.{arith}
use borrow.Author.Tests.{eqb-false}
use lib.Dec.{eqb, ltb}
use lib.ListN.{length, set, length-set}
use Rattle.words.specs.Find.{every}
use Rattle.words.proofs.Tests.{both}
use Rattle.records.specs.Verdict.{must}
use Rattle.records.specs.declared.refusal.Place.TheVariants.{Nowhere}
use Rattle.model.specs.Model.{Start, Loaded, Job, Model}
use Rattle.model.specs.Step.{with_job, with_slot, is_complete, with_held, with_time, report_with, timed_out, tick_with}
use Rattle.invariant.proofs.Lists.{never, by-test}
use Rattle.invariant.proofs.Edits.{edits_in, steps, done, done_none}
use Rattle.invariant.proofs.Parts.{JobParts, JobsParts, expected_in, Parts, decided}
use Rattle.invariant.proofs.Carried.{changed-is, result-kept}

-- a sound model with another job, or none, where what is laid is as that says
pub with-job :
    (l : Model) (s : Parts l) (o : Option Job) → JobsParts l.start l.payloads l.stack o → l.laid ≡ expected_in l.payloads l.stack o →
    Parts (with_job o l)
with-job l s o h laid =
    record {
      start = s.start;
      version = s.version;
      payloads = s.payloads;
      apart = s.apart;
      stacked = s.stacked;
      different = s.different;
      statuses = s.statuses;
      job = h;
      laid = laid;
    }

-- one more CPU held leaves a complete rendezvous complete
held_more : (held : List Bool) (cpu : ℕ) → every (λ h. h) held ≡ true → every (λ h. h) (set held cpu true) ≡ true
unfolding every
held_more [] cpu h = h
held_more (b ∷ held) zero h = (both b (every (λ x. x) held) h).1
held_more (b ∷ held) (suc cpu) h =
    let each = both b (every (λ x. x) held) h in
    rw each.0 (held_more held cpu each.1)

module _ (a : Start) (ps : List Loaded) (stack : List ℕ) (j : Job) (s : JobParts a ps stack j) where
  -- with other CPUs held, another time and other steps done
  pub going_on :
      (held : List Bool) (time done : ℕ) → length held ≡ a.cpus → 1 ≤ time → done < steps ps stack j.action j.slot →
      (every (λ h. h) held ≡ false → done ≡ 0) →
      JobParts a ps stack (record { action = j.action; slot = j.slot; held = held; time = time; steps = done })
  going_on held time done whole left more gathers =
      record {
        action_low = s.action_low;
        action_high = s.action_high;
        loaded = s.loaded;
        top = s.top;
        new = s.new;
        held = whole;
        time_some = left;
        steps_left = more;
        gathering = gathers;
      }

  gathered : (cpu : ℕ) → is_complete (with_held cpu j) ≡ false → is_complete j ≡ false
  gathered cpu h = by-test (is_complete j) (λ complete. never (held_more j.held cpu complete) h) (λ gathers. gathers)

  reported : (cpu : ℕ) → JobParts a ps stack (with_held cpu j)
  reported cpu =
      going_on (set j.held cpu true) j.time j.steps (length-set j.held cpu true ∙ s.held) s.time_some s.steps_left
      (λ h. s.gathering (gathered cpu h))

  ticked : (j.time ≡ 1 → ⊥) → JobParts a ps stack (with_time (j.time - 1) j)
  ticked more = going_on j.held (j.time - 1) j.steps s.held (omega (arith, s.time_some)) s.steps_left s.gathering

  -- before it is complete nothing is done
  none_done : is_complete j ≡ false → done ps stack j.action j.slot j.steps ≡ edits_in ps stack
  none_done h = rw (s.gathering h) (done_none ps stack j.action j.slot)

-- ---- the calls

module _ (l : Model) (s : Parts l) (j : Job) (e : l.job ≡ Some j) where
  -- what stands of the job
  pub job_of : JobParts l.start l.payloads l.stack j
  job_of = rw e at s.job

  pub laid_of : l.laid ≡ expected_in l.payloads l.stack (Some j)
  laid_of = rw e at s.laid

  timed-out : is_complete j ≡ false → Parts (timed_out l j)
  timed-out h =
      let found = with_slot l j.slot in
      let before = with-job l s None tt (laid_of ∙ none_done _ _ _ j job_of h) in
      subst⁻¹ (λ (m : Model). Parts (with_job None m)) (changed-is 16 l found) (result-kept 16 (with_job None l) found before)

  time-taken : (j.time ≡ 1 → ⊥) → Parts (with_job (Some (with_time (j.time - 1) j)) l)
  time-taken more = with-job l s (Some (with_time (j.time - 1) j)) (ticked _ _ _ j job_of more) laid_of

  tick-by : Parts (tick_with l (Some j)).model
  tick-by =
      by-test (is_complete j)
      (λ h. rw h s)
      (λ h. rw h (by-test (eqb j.time 1) (λ g. rw g (timed-out h)) (λ g. rw g (time-taken (eqb-false j.time 1 g)))))

pub report-sound : (l : Model) (o : Option Job) (cpu : ℕ) → l.job ≡ o → Parts l → Parts (report_with l o cpu).model
report-sound l None cpu e s = s
report-sound l (Some j) cpu e s =
    decided _ _ (must (ltb cpu l.start.cpus) 22 Nowhere) (λ r. s)
    (λ h. with-job l s (Some (with_held cpu j)) (reported _ _ _ j (job_of l s j e) cpu) (laid_of l s j e))

pub tick-sound : (l : Model) (o : Option Job) → l.job ≡ o → Parts l → Parts (tick_with l o).model
tick-sound l None e s = s
tick-sound l (Some j) e s = tick-by l s j e
