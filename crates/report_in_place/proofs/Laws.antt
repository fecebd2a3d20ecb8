-- Report and tick made in the bytes of a state: what each test of them decides.
use Rattle.records.specs.Refusal.{Verdict}
use Rattle.std.proofs.Common.{Ok, Err}
use Prim.Native.Nat.{ℕ, ◌-◌, ◌≤◌, ◌<◌}
use mathlib.Core.Path.{◌≡◌, subst}
use mathlib.Core.Bool.{true, false}
use mathlib.Core.List.{List}
use borrow.Author.Tests.{eq-eqb, ne_eqb, lt-ltb, le-ltb}
use Rattle.records.specs.Verdict.{refusal}
use Rattle.records.specs.declared.refusal.Place.TheVariants.{Nowhere}
use Rattle.records.specs.declared.refusal.Reason.TheVariants.{Invalid}
use Rattle.state.specs.State.{called, with_job}
use Rattle.state.specs.declared.state.Called.{Called}
use Rattle.state.specs.declared.state.State.{State}
use Rattle.ranges.specs.Ranges.{in_range}
use Rattle.rendezvous.specs.Rendezvous.{is_complete, report_rules, with_held, report_of, tick_rules, with_time, timed_out, ticked, tick_of}
use Rattle.state_bytes.specs.Stored.{HoldsState}

-- a call answered, and its state held
pub made :
    {call : Called} {answer v : Verdict} {s : State} {after : List ℕ} → called v s ≡ call → answer ≡ v → HoldsState s after →
    (answer ≡ call.verdict) × HoldsState call.state after
made {call} {answer} {v} {s} {after} e a h = subst (λ (x : Called). (answer ≡ x.verdict) × HoldsState x.state after) e (a, h)

abbrev pub refused : Verdict
refused = Err (refusal Invalid Nowhere)

module _ (s : State) where
  module _ (cpu : ℕ) where
    pub report-out : in_range s ≡ false → called refused s ≡ report_of s cpu
    unfolding report_of report_rules
    report-out h = simp h

    pub report-idle : in_range s ≡ true → s.job.action ≡ 0 → called refused s ≡ report_of s cpu
    unfolding report_of report_rules
    report-idle h e = simp (h, eq-eqb _ _ e)

    pub report-past : in_range s ≡ true → (s.job.action ≡ 0 → ⊥) → s.config.cpus ≤ cpu → called refused s ≡ report_of s cpu
    unfolding report_of report_rules
    report-past h n l = simp (h, ne_eqb _ _ n, le-ltb _ _ l)

    pub report-held :
        in_range s ≡ true → (s.job.action ≡ 0 → ⊥) → cpu < s.config.cpus → called (Ok tt) (with_job (with_held cpu s.job) s) ≡ report_of s cpu
    unfolding report_of report_rules
    report-held h n l = simp (h, ne_eqb _ _ n, lt-ltb _ _ l)

  pub tick-out : in_range s ≡ false → called refused s ≡ tick_of s
  unfolding tick_of tick_rules
  tick-out h = simp h

  pub tick-idle : in_range s ≡ true → s.job.action ≡ 0 → called refused s ≡ tick_of s
  unfolding tick_of tick_rules
  tick-idle h e = simp (h, eq-eqb _ _ e)

  module _ (h : in_range s ≡ true) (n : s.job.action ≡ 0 → ⊥) where
    pub tick-complete : is_complete s ≡ true → called (Ok tt) s ≡ tick_of s
    unfolding tick_of tick_rules ticked
    tick-complete e = simp (h, ne_eqb _ _ n, e)

    pub tick-last : is_complete s ≡ false → s.job.time ≡ 1 → called (Ok tt) (timed_out s) ≡ tick_of s
    unfolding tick_of tick_rules ticked
    tick-last e t = simp (h, ne_eqb _ _ n, e, eq-eqb _ _ t)

    pub tick-more : is_complete s ≡ false → (s.job.time ≡ 1 → ⊥) → called (Ok tt) (with_job (with_time (s.job.time - 1) s.job) s) ≡ tick_of s
    unfolding tick_of tick_rules ticked
    tick-more e t = simp (h, ne_eqb _ _ n, e, ne_eqb _ _ t)
