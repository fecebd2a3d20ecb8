-- `end::set_stack` meets its contract: by the job's action.
use Prim.Native.Nat.{◌≤◌, ◌<◌}
use native.Mathlib.Omega.{arith}
use borrow.Author.Rules.{rules}
use borrow.Author.Tests.{eq-eqb, ne_eqb, leb-true, ltb-true}
use Rattle.memory.specs.Memory.{slot_count}
use Rattle.state.specs.State.{revert, apply}
use Rattle.state.proofs.Whole.{whole}
use Rattle.ranges.specs.Ranges.{stack_fits}
use Rattle.ranges.proofs.Laws.{InRange, in-range}
use Rattle.steps.specs.Next.{stack_set}
use Rattle.steps.proofs.end.set_stack.Statement.{statement}
use Rattle.steps.proofs.end.set_stack.Tie as tie

module _ (c : tie.Start) where
  ranges : InRange c.args.state
  ranges = in-range (whole c.args.state _ c.well_formed.0) c.requires.0

-- there is a payload to take off
some : (c : tie.Then-job-eq-REVERT) → 1 ≤ c.args.state.depth
unfolding stack_fits
some c =
    leb-true _ _ (rw (eq-eqb _ _ c.if-job-eq-REVERT.true) at ((ranges c.before.before.before).job c.requires.1).fits)

returns-then-job-eq-REVERT : tie.Need-returns-then-job-eq-REVERT
unfolding stack_set
returns-then-job-eq-REVERT c = simp (eq-eqb _ _ c.if-job-eq-REVERT.true)

-- there is room for one more
room : (c : tie.Then-job-eq-APPLY) → c.args.state.depth < slot_count
unfolding stack_fits
room c =
    let r = ranges c.before.before.before.before.before in
    let s = c.args.state in
    let action = s.job.action in
    let fits : s.depth < s.count =
    ltb-true _ _ (rw (ne_eqb action revert c.if-job-eq-REVERT.false, eq-eqb action apply c.if-job-eq-APPLY.true) at (r.job c.requires.1).fits) in
    omega (arith, fits, r.few)

returns-then-job-eq-APPLY : tie.Need-returns-then-job-eq-APPLY
unfolding stack_set
returns-then-job-eq-APPLY c = simp (ne_eqb _ _ c.if-job-eq-REVERT.false, eq-eqb _ _ c.if-job-eq-APPLY.true)

returns : tie.Need-returns
unfolding stack_set
returns c = simp (ne_eqb _ _ c.if-job-eq-REVERT.false, ne_eqb _ _ c.if-job-eq-APPLY.false)

overflow_sub-next : tie.Need-overflow_sub-next
overflow_sub-next c = omega (arith, some c)

offset_bounds-next-depth : tie.Need-offset_bounds-next-depth
offset_bounds-next-depth c = omega (arith, room c)

bounds-next-depth : tie.Need-bounds-next-depth
bounds-next-depth c = omega (arith, room c)

overflow_add-next : tie.Need-overflow_add-next
overflow_add-next c = omega (arith, room c)

pub set_stack_spec : {M : Type 1} → statement M
set_stack_spec =
    tie.close (tie.spec overflow_sub-next returns-then-job-eq-REVERT offset_bounds-next-depth bounds-next-depth overflow_add-next returns-then-job-eq-APPLY (λ c. search rules) returns)
