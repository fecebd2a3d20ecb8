-- `report` meets its contract: the first test that fails refuses; else the CPU is held.
use mathlib.Core.Path.{◌∙◌}
use native.Mathlib.Omega.{arith}
use borrow.Author.Tests.{eq-eqb, ne_eqb, lt-ltb, le-ltb}
use Rattle.words.proofs.Tests.{held, refuted}
use Rattle.memory.proofs.Laws.{valid-config}
use Rattle.state.proofs.Whole.{whole}
use Rattle.ranges.proofs.Laws.{in-range}
use Rattle.rendezvous.specs.Rendezvous.{report_of, report_rules}
use Rattle.rendezvous.proofs.report.Goals as goal

pub returns-then-not-in_range : goal.returns-then-not-in_range
unfolding report_of report_rules
returns-then-not-in_range c = c.refused.ensures ∙ simp (refuted c.in_range.ensures c.if-not-in_range.true)

pub returns-then-job-eq0 : goal.returns-then-job-eq0
unfolding report_of report_rules
returns-then-job-eq0 c = c.refused-then-job-eq0.ensures
    ∙ simp (held c.in_range.ensures c.if-not-in_range.false, eq-eqb _ _ c.if-job-eq0.true)

pub returns-then-config-cpu : goal.returns-then-config-cpu
unfolding report_of report_rules
returns-then-config-cpu c = c.refused-then-config-cpu.ensures
    ∙ simp (
      held c.in_range.ensures c.if-not-in_range.false,
      ne_eqb _ _ c.if-job-eq0.false,
      le-ltb _ _ c.if-config-cpu.true,
    )

pub bounds-job-cpu : goal.bounds-job-cpu
bounds-job-cpu c = omega (
  arith,
  (valid-config _ (in-range (whole c.args.state _ c.well_formed.0) (held c.in_range.ensures c.if-not-in_range.false)).config).cpus_max,
)

pub returns : goal.returns
unfolding report_of report_rules
returns c = simp (
  held c.in_range.ensures c.if-not-in_range.false,
  ne_eqb _ _ c.if-job-eq0.false,
  lt-ltb _ _ c.if-config-cpu.false,
)
