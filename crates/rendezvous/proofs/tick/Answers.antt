-- `tick` meets its contract: the first test that fails refuses; else by whether all CPUs are held, and whether this tick is the last.
use Rattle.std.proofs.Common.{Ok}
use mathlib.Core.Path.{◌≡◌, ap, ◌∙◌}
use mathlib.Core.Bool.{true}
use native.Mathlib.Omega.{arith}
use borrow.Author.Tests.{eq-eqb, ne_eqb}
use Rattle.words.proofs.Tests.{held, refuted}
use Rattle.state.specs.State.{called}
use Rattle.state.specs.declared.state.State.{State}
use Rattle.state.proofs.Whole.{whole}
use Rattle.ranges.specs.Ranges.{in_range}
use Rattle.ranges.proofs.Laws.{in-range}
use Rattle.rendezvous.specs.Rendezvous.{tick_rules, ticked, tick_of}
use Rattle.rendezvous.proofs.tick.Goals as goal
use Rattle.rendezvous.proofs.tick.Goals.{Else-job-eq0, After-is_complete}

pub returns-then-not-in_range : goal.returns-then-not-in_range
unfolding tick_of tick_rules
returns-then-not-in_range c = c.refused.ensures ∙ simp (refuted c.in_range.ensures c.if-not-in_range.true)

pub returns-then-job-eq0 : goal.returns-then-job-eq0
unfolding tick_of tick_rules
returns-then-job-eq0 c =
    c.refused-then-job-eq0.ensures ∙ simp (held c.in_range.ensures c.if-not-in_range.false, eq-eqb _ _ c.if-job-eq0.true)

-- with a job
ranged : (c : goal.Else-job-eq0) → in_range c.args.state ≡ true
ranged c = held c.in_range.ensures c.if-not-in_range.false

pub is_complete-requires : goal.is_complete-requires
is_complete-requires c = ranged (goal.at.is_complete-requires c).Else-job-eq0

pub time_out-ended-requires : goal.time_out-ended-requires
time_out-ended-requires c = ranged (goal.at.time_out-ended-requires c).Else-job-eq0

pub overflow_sub-job : goal.overflow_sub-job
overflow_sub-job c =
    let known = ranged (goal.at.overflow_sub-job c).Else-job-eq0 in
    omega (arith, ((in-range (whole c.args.state _ c.well_formed.0) known).job (rw (ne_eqb _ _ c.if-job-eq0.false))).timed)

-- the rules are kept: what the tick does decides
passed : (c : goal.After-is_complete) → called (Ok tt) (ticked c.args.state) ≡ tick_of c.args.state
unfolding tick_of tick_rules
passed c = simp (held c.in_range.ensures c.if-not-in_range.false, ne_eqb _ _ c.if-job-eq0.false)

pub returns-then-job-eq1 : goal.returns-then-job-eq1
unfolding ticked
returns-then-job-eq1 c =
    ap (λ (t : State). called (Ok tt) t)
    (c.time_out-ended.ensures ∙ rw (← c.is_complete.ensures, c.if-is_complete.false, eq-eqb _ _ c.if-job-eq1.true))
    ∙ passed (goal.at.returns-then-job-eq1 c).After-is_complete

pub returns : goal.returns
unfolding ticked
returns c =
    ap (λ (t : State). called (Ok tt) t)
    (rw (← c.is_complete.ensures, c.if-is_complete.false, ne_eqb _ _ c.if-job-eq1.false))
    ∙ passed (goal.at.returns c).After-is_complete

pub returns-then-is_complete : goal.returns-then-is_complete
unfolding ticked
returns-then-is_complete c =
    ap (λ (t : State). called (Ok tt) t) (rw (← c.is_complete.ensures, c.if-is_complete.true))
    ∙ passed (goal.at.returns-then-is_complete c).After-is_complete
