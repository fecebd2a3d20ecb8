-- `reporting::tick` meets its contract: the first test that fails refuses; else by whether all CPUs are held, and whether this tick is the last.
use Prim.Native.Nat.{◌-◌, ◌≤◌}
use mathlib.Core.Path.{◌≡◌, refl, sym, ap, ◌∙◌}
use mathlib.Core.Bool.{true, false}
use native.Mathlib.Omega.{arith}
use borrow.Author.Tests.{ne_eqb}
use Rattle.words.proofs.Tests.{held, refuted}
use Rattle.memory.specs.Config.{cpus_max}
use Rattle.memory.specs.declared.config.Config.{Config}
use Rattle.memory.proofs.Laws.{valid-config}
use Rattle.state.specs.State.{with_job}
use Rattle.state.specs.declared.state.Job.{Job}
use Rattle.state.specs.declared.state.State.{State}
use Rattle.ranges.specs.Ranges.{in_range}
use Rattle.ranges.proofs.Laws.{InRange}
use Rattle.rendezvous.specs.Rendezvous.{is_complete, with_time}
use Rattle.state_bytes.specs.Stored.{state_in}
use Rattle.state_bytes.proofs.Laws.{state-length, holds-still}
use Rattle.in_place.proofs.Laws.{ranges-of, holds_as, all-complete}
use Rattle.report_in_place.proofs.Laws.{made, tick-out, tick-idle, tick-complete, tick-last, tick-more}
use Rattle.report_in_place.proofs.reporting.tick.Goals as goal
use Rattle.report_in_place.proofs.reporting.tick.Goals.{Else-not-in_range, Else-job-eq0, After-all_held, Else-all_held}

pub returns-then-not-in_range : goal.returns-then-not-in_range
returns-then-not-in_range c = let b = c.args.b.now in
    made (tick-out (state_in b) (refuted c.in_range.ensures c.if-not-in_range.true)) c.refused.ensures (holds-still b c.requires)

-- the numbers are in their ranges
ranged : (c : goal.Else-not-in_range) → in_range (state_in c.args.b.now) ≡ true
ranged c = held c.in_range.ensures c.if-not-in_range.false

pub returns-then-job-eq0 : goal.returns-then-job-eq0
returns-then-job-eq0 c = let b = c.args.b.now in
    let idle = ap (λ (j : Job). j.action) (sym c.job-job.ensures) ∙ c.if-job-eq0.true in
    made (tick-idle (state_in b) (ranged (goal.at.returns-then-job-eq0 c).Else-not-in_range) idle) c.refused-then-job-eq0.ensures
    (holds-still b c.requires)

-- and a job stands
module _ (c : goal.Else-job-eq0) where
  abbrev state-of : State
  state-of = state_in c.args.b.now

  in-ranges : in_range state-of ≡ true
  in-ranges = held c.in_range.ensures c.if-not-in_range.false

  ranges : InRange state-of
  ranges = ranges-of _ (state-length _ c.requires) in-ranges

  job_read : c.job-job.result ≡ state-of.job
  job_read = c.job-job.ensures

  standing : state-of.job.action ≡ 0 → ⊥
  standing e = c.if-job-eq0.false (ap (λ (j : Job). j.action) job_read ∙ e)

  few : state-of.config.cpus ≤ cpus_max
  few = (valid-config _ ranges.config).cpus_max

-- whether all CPUs are held
complete : (c : goal.After-all_held) → c.all_held.result ≡ is_complete (state_in c.args.b.now)
complete c = c.all_held.ensures ∙ all-complete (state_in c.args.b.now) c.job-job.ensures c.config-config.ensures

pub returns-then-all_held : goal.returns-then-all_held
returns-then-all_held c = let here = (goal.at.returns-then-all_held c).Else-job-eq0 in
    made (tick-complete (state-of here) (in-ranges here) (standing here) (sym (complete (goal.at.returns-then-all_held c).After-all_held) ∙ c.if-all_held.true)) refl
    (holds-still _ c.requires)

-- not all are
loose : (c : goal.Else-all_held) → is_complete (state_in c.args.b.now) ≡ false
loose c = sym (c.all_held.ensures ∙ all-complete (state_in c.args.b.now) c.job-job.ensures c.config-config.ensures) ∙ c.if-all_held.false

pub time_out-requires : goal.time_out-requires
time_out-requires c = let here = (goal.at.time_out-requires c).Else-job-eq0 in
    (c.requires, in-ranges here, ap (λ (j : Job). j.slot) (job_read here))

pub returns-then-job-eq1 : goal.returns-then-job-eq1
returns-then-job-eq1 c = let here = (goal.at.returns-then-job-eq1 c).Else-job-eq0 in
    let at_1 = ap (λ (j : Job). j.time) (sym (job_read here)) ∙ c.if-job-eq1.true in
    made (tick-last (state-of here) (in-ranges here) (standing here) (loose (goal.at.returns-then-job-eq1 c).Else-all_held) at_1) refl c.time_out.ensures

pub overflow_sub-job : goal.overflow_sub-job
overflow_sub-job c = let here = (goal.at.overflow_sub-job c).Else-job-eq0 in
    omega (arith, ap (λ (j : Job). j.time) (job_read here), ((ranges here).job (rw (ne_eqb _ _ (standing here)))).timed)

pub returns : goal.returns
returns c = let here = (goal.at.returns c).Else-job-eq0 in
    let s = state-of here in
    let not-1 : s.job.time ≡ 1 → ⊥ = λ e. c.if-job-eq1.false (ap (λ (j : Job). j.time) (job_read here) ∙ e) in
    made (tick-more s (in-ranges here) (standing here) (loose (goal.at.returns c).Else-all_held) not-1) refl
    (holds_as c.put_job.ensures (ap (λ (j : Job). with_job (with_time (j.time - 1) j) s) (job_read here)))

pub in_range-requires : goal.in_range-requires
in_range-requires c = state-length _ c.requires

pub job-job-requires : goal.job-job-requires
job-job-requires c = state-length _ c.requires

pub config-config-requires : goal.config-config-requires
config-config-requires c = state-length _ c.requires

pub all_held-requires : goal.all_held-requires
all_held-requires c = omega (arith, ap (λ (x : Config). x.cpus) c.config-config.ensures, few (goal.at.all_held-requires c).Else-job-eq0)

pub put_job-requires : goal.put_job-requires
put_job-requires c = c.requires
