-- A report and a tick give the model's replies, and leave what stands for the model after them.
use Rattle.std.proofs.Common.{Ok, Err, Option, None, Some}
use Prim.Native.Nat.{ℕ, ◌-◌, ◌<◌}
use mathlib.Core.Path.{◌≡◌, refl, sym, ap, subst, ◌∙◌}
use mathlib.Core.Bool.{Bool, true, false, cond}
use mathlib.Core.List.{List}
use borrow.Author.Tests.{ltb-true}
use lib.Dec.{ltb, eqb}
use lib.ListN.{set, length-set, length-replicate}
use lib.Seq.{take-set-lt}
use Rattle.words.specs.Find.{every}
use Rattle.records.specs.Verdict.{must, decide}
use Rattle.records.specs.declared.refusal.Place.TheVariants.{Nowhere}
use Rattle.records.proofs.Checks.{must-pass}
use Rattle.memory.specs.Config.{cpus_max}
use Rattle.state.specs.State as kept
use Rattle.state.specs.declared.state.Called.{Called}
use Rattle.rendezvous.specs.Rendezvous as rendezvous
use Rattle.model.specs.Calls.{Says, Report, Tick}
use Rattle.model.specs.Model.{Job, Model}
use Rattle.model.specs.Step as model
use Rattle.invariant.specs.Sound.{SoundJobs, Sound}
use Rattle.refinement.specs.Stands.{Loader, JobStands, JobsStand, Stands}
use Rattle.refinement.proofs.Agrees.{decide-agrees}
use Rattle.refinement.proofs.Changes.{with_state, result-change, in-stands, job-stands}
use Rattle.refinement.proofs.InRange.{in-range, standing}

-- a call that leaves the lent memory as it is, against what the model is told: the reply, and what is left
abbrev pub Agrees : Loader → Called → model.Told → Type 0
Agrees u x y = (Says x.verdict ≡ y.reply) × Stands (with_state x.state u) y.model

module _ {u : Loader} {l : Model} (k : Stands u l) (sound : Sound l) where
  cpus : u.state.config.cpus ≡ l.start.cpus
  cpus = ap (λ c. c.cpus) k.state.config

  pub complete : (j : Job) → JobStands l.start.cpus u.state.job j → rendezvous.is_complete u.state ≡ model.is_complete j
  unfolding rendezvous.is_complete
  complete j stands = rw cpus (ap (every (λ held. held)) stands.held)

  -- ---- a report

  held-stands :
      (j : Job) → JobStands l.start.cpus u.state.job j → (cpu : ℕ) → cpu < l.start.cpus →
      JobStands l.start.cpus (rendezvous.with_held cpu u.state.job) (model.with_held cpu j)
  held-stands j stands cpu h = record {
    action = stands.action;
    slot = stands.slot;
    held = take-set-lt l.start.cpus u.state.job.held cpu true h ∙ ap (λ (held : List Bool). set held cpu true) stands.held;
    time = stands.time;
    steps = stands.steps;
  }

  abbrev reported : ℕ → Called
  reported cpu = kept.called (Ok tt) (kept.with_job (rendezvous.with_held cpu u.state.job) u.state)

  report-with :
      (cpu : ℕ) (o : Option Job) → JobsStand l.start.cpus u.state.job o → SoundJobs l o →
      Agrees u (rendezvous.report_of u.state cpu) (model.report_with l o cpu)
  unfolding rendezvous.report_of rendezvous.report_rules
  report-with cpu None stands good = rw (in-range k sound, standing k.state sound None stands good) (refl, k)
  report-with cpu (Some j) stands good =
      rw (in-range k sound, standing k.state sound (Some j) stands good)
      (subst
      (λ (n : ℕ). Agrees u (decide (λ r. kept.called (Err r) u.state) (reported cpu) (must (ltb cpu n) 22 Nowhere)) (model.report_with l (Some j) cpu))
      (sym cpus)
      (decide-agrees (Agrees u) (must (ltb cpu l.start.cpus) 22 Nowhere) (λ r. (refl, k)) λ pass.
      let low : cpu < l.start.cpus = ltb-true cpu l.start.cpus (must-pass _ 22 Nowhere pass) in
      (refl, job-stands k _ (Some (model.with_held cpu j)) (held-stands j stands cpu low) (length-set u.state.job.held cpu true ∙ k.state.held_whole))))

  pub report-agrees : (cpu : ℕ) → Agrees u (rendezvous.report_of u.state cpu) (model.step l (Report cpu))
  unfolding model.step
  report-agrees cpu = report-with cpu l.job k.state.job sound.job

  -- ---- a tick

  time-stands :
      (j : Job) → JobStands l.start.cpus u.state.job j →
      JobStands l.start.cpus (rendezvous.with_time (u.state.job.time - 1) u.state.job) (model.with_time (j.time - 1) j)
  time-stands j stands = record {
    action = stands.action;
    slot = stands.slot;
    held = stands.held;
    time = ap (λ (n : ℕ). n - 1) stands.time;
    steps = stands.steps;
  }

  time-out : (j : Job) → JobStands l.start.cpus u.state.job j → Stands (with_state (rendezvous.timed_out u.state) u) (model.timed_out l j)
  unfolding rendezvous.timed_out
  time-out j stands =
      let changed = in-stands (kept.with_result 16) (model.with_result 16) (result-change 16) k u.state.job.slot in
      subst
      (λ (slot : ℕ). Stands (with_state (rendezvous.timed_out u.state) u) (model.with_job None (model.changed_in (model.with_result 16) l slot)))
      stands.slot
      (job-stands changed kept.no_job None refl (length-replicate cpus_max false))

  abbrev left_by : Job → Bool → Bool → Model
  left_by j full last = cond full l (cond last (model.timed_out l j) (model.with_job (Some (model.with_time (j.time - 1) j)) l))

  ticked-by :
      (j : Job) → JobStands l.start.cpus u.state.job j → (full last : Bool) →
      Stands
      (with_state
      (cond full u.state
      (cond last (rendezvous.timed_out u.state)
      (kept.with_job (rendezvous.with_time (u.state.job.time - 1) u.state.job) u.state)))
      u)
      (left_by j full last)
  ticked-by j stands true last = k
  ticked-by j stands false true = time-out j stands
  ticked-by j stands false false = job-stands k _ (Some (model.with_time (j.time - 1) j)) (time-stands j stands) k.state.held_whole

  ticked-stands :
      (j : Job) → JobStands l.start.cpus u.state.job j →
      Stands (with_state (rendezvous.ticked u.state) u) (left_by j (model.is_complete j) (eqb j.time 1))
  unfolding rendezvous.ticked
  ticked-stands j stands =
      subst (λ (full : Bool). Stands (with_state (rendezvous.ticked u.state) u) (left_by j full (eqb j.time 1))) (complete j stands)
      (subst (λ (n : ℕ). Stands (with_state (rendezvous.ticked u.state) u) (left_by j (rendezvous.is_complete u.state) (eqb n 1))) stands.time
      (ticked-by j stands (rendezvous.is_complete u.state) (eqb u.state.job.time 1)))

  tick-with :
      (o : Option Job) → JobsStand l.start.cpus u.state.job o → SoundJobs l o →
      Agrees u (rendezvous.tick_of u.state) (model.tick_with l o)
  unfolding rendezvous.tick_of rendezvous.tick_rules
  tick-with None stands good = rw (in-range k sound, standing k.state sound None stands good) (refl, k)
  tick-with (Some j) stands good =
      rw (in-range k sound, standing k.state sound (Some j) stands good) (refl, ticked-stands j stands)

  pub tick-agrees : Agrees u (rendezvous.tick_of u.state) (model.step l Tick)
  unfolding model.step
  tick-agrees = tick-with l.job k.state.job sound.job
