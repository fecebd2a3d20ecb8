-- `reporting::report` meets its contract: the first test that fails refuses; else the CPU is held.
use Prim.Native.Nat.{◌≤◌, ◌<◌}
use mathlib.Core.Path.{◌≡◌, refl, sym, ap, ◌∙◌}
use mathlib.Core.Bool.{true}
use native.Mathlib.Omega.{arith}
use Rattle.words.proofs.Tests.{held, refuted}
use Rattle.memory.specs.declared.config.Config.{Config}
use Rattle.memory.proofs.Laws.{valid-config}
use Rattle.state.specs.State.{with_job}
use Rattle.state.specs.declared.state.Job.{Job}
use Rattle.ranges.specs.Ranges.{in_range}
use Rattle.rendezvous.specs.Rendezvous.{with_held}
use Rattle.state_bytes.specs.Stored.{state_in}
use Rattle.state_bytes.proofs.Laws.{state-length, holds-still}
use Rattle.in_place.proofs.Laws.{ranges-of, holds_as}
use Rattle.report_in_place.proofs.Laws.{made, report-out, report-idle, report-past, report-held}
use Rattle.report_in_place.proofs.reporting.report.Goals as goal
use Rattle.report_in_place.proofs.reporting.report.Goals.{Else-not-in_range, Else-job-eq0, Else-config-cpu}

pub returns-then-not-in_range : goal.returns-then-not-in_range
returns-then-not-in_range c = let b = c.args.b.now in
    made (report-out (state_in b) c.args.cpu (refuted c.in_range.ensures c.if-not-in_range.true)) c.refused.ensures
    (holds-still b c.requires)

-- the numbers are in their ranges
ranged : (c : goal.Else-not-in_range) → in_range (state_in c.args.b.now) ≡ true
ranged c = held c.in_range.ensures c.if-not-in_range.false

pub returns-then-job-eq0 : goal.returns-then-job-eq0
returns-then-job-eq0 c = let b = c.args.b.now in
    let idle = ap (λ (j : Job). j.action) (sym c.job-job.ensures) ∙ c.if-job-eq0.true in
    made (report-idle (state_in b) c.args.cpu (ranged (goal.at.returns-then-job-eq0 c).Else-not-in_range) idle) c.refused-then-job-eq0.ensures
    (holds-still b c.requires)

-- and a job stands
standing : (c : goal.Else-job-eq0) → (state_in c.args.b.now).job.action ≡ 0 → ⊥
standing c e = c.if-job-eq0.false (ap (λ (j : Job). j.action) c.job-job.ensures ∙ e)

pub returns-then-config-cpu : goal.returns-then-config-cpu
returns-then-config-cpu c = let b = c.args.b.now in
    let cpus = ap (λ (x : Config). x.cpus) c.config-config.ensures in
    let past : (state_in b).config.cpus ≤ c.args.cpu = omega (arith, cpus, c.if-config-cpu.true) in
    made
    (report-past (state_in b) c.args.cpu (ranged (goal.at.returns-then-config-cpu c).Else-not-in_range)
    (standing (goal.at.returns-then-config-cpu c).Else-job-eq0) past)
    c.refused-then-config-cpu.ensures (holds-still b c.requires)

-- and the CPU is one of those that there are
one : (c : goal.Else-config-cpu) → c.args.cpu < (state_in c.args.b.now).config.cpus
one c = omega (arith, ap (λ (x : Config). x.cpus) c.config-config.ensures, c.if-config-cpu.false)

pub bounds-job-cpu : goal.bounds-job-cpu
bounds-job-cpu c = let numbers = ranges-of _ (state-length _ c.requires) (ranged (goal.at.bounds-job-cpu c).Else-not-in_range) in
    omega (arith, one (goal.at.bounds-job-cpu c).Else-config-cpu, (valid-config _ numbers.config).cpus_max)

pub returns : goal.returns
returns c = let s = state_in c.args.b.now in
    let cpu = c.args.cpu in
    made
    (report-held s cpu (ranged (goal.at.returns c).Else-not-in_range) (standing (goal.at.returns c).Else-job-eq0)
    (one (goal.at.returns c).Else-config-cpu))
    refl
    (holds_as c.put_job.ensures (ap (λ (j : Job). with_job (with_held cpu j) s) c.job-job.ensures))

pub in_range-requires : goal.in_range-requires
in_range-requires c = state-length _ c.requires

pub job-job-requires : goal.job-job-requires
job-job-requires c = state-length _ c.requires

pub config-config-requires : goal.config-config-requires
config-config-requires c = state-length _ c.requires

pub put_job-requires : goal.put_job-requires
put_job-requires c = c.requires
