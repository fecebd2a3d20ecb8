-- A work step made in the bytes of a state: what each test of it decides, and what the bytes then hold.
use Rattle.records.specs.Refusal.{Verdict}
use Rattle.std.proofs.Common.{Ok, Err}
use Prim.Native.Nat.{ℕ, ◌+◌}
use mathlib.Core.Path.{◌≡◌, refl, ap, subst, ◌∙◌}
use mathlib.Core.Bool.{Bool, true, false, cond}
use mathlib.Core.List.{List}
use borrow.Author.Tests.{eq-eqb, ne_eqb}
use lib.Dec.{eqb}
use lib.ListN.{length}
use Rattle.records.specs.Verdict.{refusal}
use Rattle.records.specs.declared.refusal.Place.TheVariants.{Nowhere}
use Rattle.records.specs.declared.refusal.Reason.{Reason}
use Rattle.records.specs.declared.refusal.Reason.TheVariants.{Invalid, Busy}
use Rattle.machine.specs.Host.{machine_of}
use Rattle.memory.specs.declared.config.Config.{Config}
use Rattle.state.specs.Change.{changed_in}
use Rattle.state.specs.State.{replace, no_job, with_stack, with_job}
use Rattle.state.specs.Steps.{step_count}
use Rattle.state.specs.declared.state.Job.{Job}
use Rattle.state.specs.declared.state.State.{State}
use Rattle.state.specs.declared.steps.Step.{Step}
use Rattle.rendezvous.specs.Rendezvous.{is_complete}
use Rattle.state_bytes.specs.Stored.{state_in, HoldsState}
use Rattle.in_place.proofs.Laws.{holds_as}
use Rattle.steps.specs.Next.{step_now, with_steps, all_checked, taken_down, finished, statuses_set, stack_set, ended, worked}
use Rattle.steps.proofs.EndLaws.{stack-job}
use Rattle.work.specs.Work.{Lent, work_sizes_ok, work_rules, Ready, Worked, work_of}
use Rattle.work.specs.Work as work

-- the number of applied payloads is replaced, after their slots
pub depth-after :
    (s : State) {b after slots : List ℕ} {n d e : ℕ} → HoldsState (with_stack n slots s) b → HoldsState (with_stack d (state_in b).stack (state_in b)) after →
    d ≡ e → HoldsState (with_stack e slots s) after
depth-after s {b} {after} {slots} {n} {d} {e} h g same =
    holds_as g (ap (λ (x : State). with_stack d x.stack x) h.read ∙ ap (λ (m : ℕ). with_stack m slots s) same)

-- ---- the state after a work step

pub down-counts : (s : State) → (taken_down s).count ≡ s.count
unfolding all_checked
down-counts s = by_cases (eqb s.job.action replace)
  where
    by_cases : (t : Bool) → (cond t (all_checked s) s).count ≡ s.count
    by_cases true = refl
    by_cases false = refl

pub ended_by :
    (s : State) {j : Job} {t : State} → j ≡ s.job → t ≡ taken_down (stack_set s) →
    with_job no_job (changed_in (finished j.action) t j.slot) ≡ ended s
unfolding ended statuses_set
ended_by s e f = rw (e, f, stack-job s)

pub worked-last : (s : State) → s.job.steps + 1 ≡ step_count s → ended s ≡ worked s
unfolding worked
worked-last s e = rw (eq-eqb _ _ e)

pub worked-more : (s : State) → (s.job.steps + 1 ≡ step_count s → ⊥) → with_job (with_steps (s.job.steps + 1) s.job) s ≡ worked s
unfolding worked
worked-more s n = rw (ne_eqb _ _ n)

-- ---- a work step

-- the step answered, its state held, and both stores
pub stepped :
    {w : Worked} {answer v : Verdict} {s : State} {l m : Lent} {after : List ℕ} → record { answer = v; state = s; after = m } ≡ w →
    answer ≡ v → HoldsState s after → l ≡ m → (answer ≡ w.answer) × HoldsState w.state after × (l ≡ w.after)
stepped {w} {answer} {v} {s} {l} {m} {after} e a h f =
    subst (λ (x : Worked). (answer ≡ x.answer) × HoldsState x.state after × (l ≡ x.after)) e (a, h, f)

module _ (s : State) (l : Lent) where
  abbrev refused_with : Reason → Worked
  refused_with reason = record { answer = Err (refusal reason Nowhere); state = s; after = l }

  pub work-out : work_sizes_ok s (length l.text) (length l.undo) ≡ false → refused_with Invalid ≡ work_of s l
  unfolding work_of work_rules
  work-out h = simp h

  module _ (h : work_sizes_ok s (length l.text) (length l.undo) ≡ true) where
    pub work-idle : s.job.action ≡ 0 → refused_with Invalid ≡ work_of s l
    unfolding work_of work_rules
    work-idle e = simp (h, eq-eqb _ _ e)

    module _ (n : s.job.action ≡ 0 → ⊥) where
      pub work-early : is_complete s ≡ false → refused_with Busy ≡ work_of s l
      unfolding work_of work_rules
      work-early e = simp (h, ne_eqb _ _ n, e)

      pub work-made :
          is_complete s ≡ true →
          record { answer = Ok tt; state = worked s; after = work.made (machine_of s.config.processor) (step_now s) l } ≡ work_of s l
      unfolding work_of work_rules
      work-made e = simp (h, ne_eqb _ _ n, e)

  -- the step and the processor as they were read
  module _ {k : Step} {c : Config} (e : k ≡ step_now s) (f : c ≡ s.config) where
    pub ready_read : Ready (machine_of s.config.processor) (step_now s) l → Ready (machine_of c.processor) k l
    ready_read r = rw (e, f) r

    pub made-read : {m : Lent} → m ≡ work.made (machine_of c.processor) k l → m ≡ work.made (machine_of s.config.processor) (step_now s) l
    made-read told = told ∙ rw (e, f)
