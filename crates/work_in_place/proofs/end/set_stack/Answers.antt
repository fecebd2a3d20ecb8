-- `end::set_stack` meets its contract: by the job's action.
use Prim.Native.Nat.{ℕ, ◌≤◌, ◌<◌, ◌+◌, ◌-◌}
use mathlib.Core.Path.{◌≡◌, refl, sym, ap, ◌∙◌}
use mathlib.Core.List.{List}
use native.Mathlib.Omega.{arith}
use borrow.Author.Tests.{eq-eqb, ne_eqb, leb-true, ltb-true}
use lib.ListN.{set}
use Rattle.memory.specs.Memory.{slot_count}
use Rattle.state.specs.State.{revert, apply, with_stack}
use Rattle.state.specs.declared.state.Job.{Job}
use Rattle.state.specs.declared.state.State.{State}
use Rattle.ranges.specs.Ranges.{stack_fits}
use Rattle.ranges.proofs.Laws.{InRange}
use Rattle.state_bytes.specs.Stored.{state_in}
use Rattle.state_bytes.proofs.Laws.{state-length}
use Rattle.steps.specs.Next.{stack_set}
use Rattle.in_place.proofs.Laws.{ranges-of, holds_as}
use Rattle.work_in_place.proofs.Laws.{depth-after}
use Rattle.work_in_place.proofs.end.set_stack.Goals as goal
use Rattle.work_in_place.proofs.end.set_stack.Goals.{Then-job-eq-REVERT, Else-job-eq-REVERT, Then-job-eq-APPLY, Else-job-eq-APPLY}

-- a revert
module _ (c : goal.Then-job-eq-REVERT) where
  abbrev undone : State
  undone = state_in c.args.b.now

  reverts : undone.job.action ≡ revert
  reverts = sym (ap (λ (j : Job). j.action) c.job-job.ensures) ∙ c.if-job-eq-REVERT.true

  -- there is a payload to take off
  some : 1 ≤ undone.depth
  unfolding stack_fits
  some =
      let r : InRange undone = ranges-of _ (state-length _ c.requires.0) c.requires.1 in
      leb-true _ _ (rw (eq-eqb _ _ reverts) at (r.job c.requires.2).fits)

pub returns-then-job-eq-REVERT : goal.returns-then-job-eq-REVERT
unfolding stack_set
returns-then-job-eq-REVERT c = let s = state_in c.args.b.now in
    holds_as c.put_depth.ensures
    (ap (λ (d : ℕ). with_stack (d - 1) s.stack s) c.depth-depth.ensures
    ∙ rw (eq-eqb _ _ (reverts (goal.at.returns-then-job-eq-REVERT c).Then-job-eq-REVERT)))

-- an apply or a replace
lays : (c : goal.Else-job-eq-REVERT) → (state_in c.args.b.now).job.action ≡ revert → ⊥
lays c e = c.if-job-eq-REVERT.false (ap (λ (j : Job). j.action) c.job-job.ensures ∙ e)

-- an apply
module _ (c : goal.Then-job-eq-APPLY) where
  abbrev applied-to : State
  applied-to = state_in c.args.b.now

  applies : applied-to.job.action ≡ apply
  applies = sym (ap (λ (j : Job). j.action) c.job-job.ensures) ∙ c.if-job-eq-APPLY.true

  -- there is room for one more
  room : applied-to.depth < slot_count
  unfolding stack_fits
  room =
      let s = applied-to in
      let r : InRange s = ranges-of _ (state-length _ c.requires.0) c.requires.1 in
      let lower : s.job.action ≡ revert → ⊥ = λ e. c.if-job-eq-REVERT.false (ap (λ (j : Job). j.action) c.job-job.ensures ∙ e) in
      let fits : s.depth < s.count =
      ltb-true _ _ (rw (ne_eqb s.job.action revert lower, eq-eqb s.job.action apply applies) at (r.job c.requires.2).fits) in
      omega (arith, fits, r.few)

-- the slots with one of them replaced
set_same : {l m : List ℕ} {i k x y : ℕ} → l ≡ m → i ≡ k → x ≡ y → set l i x ≡ set m k y
set_same e f g = rw (e, f, g)

pub returns-then-job-eq-APPLY : goal.returns-then-job-eq-APPLY
unfolding stack_set
returns-then-job-eq-APPLY c = let s = state_in c.args.b.now in
    let depth = c.depth-depth.ensures in
    let aims = ap (λ (j : Job). j.slot) c.job-job.ensures in
    holds_as (depth-after s c.put_stack.ensures c.put_depth-then-job-eq-APPLY.ensures (ap (λ (d : ℕ). d + 1) depth))
    (ap (λ (l : List ℕ). with_stack (s.depth + 1) l s) (set_same c.stack-stack.ensures depth aims)
    ∙ rw (
      ne_eqb s.job.action revert (lays (goal.at.returns-then-job-eq-APPLY c).Else-job-eq-REVERT),
      eq-eqb s.job.action apply (applies (goal.at.returns-then-job-eq-APPLY c).Then-job-eq-APPLY),
    ))

-- a replace
replaces : (c : goal.Else-job-eq-APPLY) → (state_in c.args.b.now).job.action ≡ apply → ⊥
replaces c e = c.if-job-eq-APPLY.false (ap (λ (j : Job). j.action) c.job-job.ensures ∙ e)

pub returns : goal.returns
unfolding stack_set
returns c = let s = state_in c.args.b.now in
    let aims = ap (λ (j : Job). j.slot) c.job-job.ensures in
    holds_as (depth-after s c.put_stack-2.ensures c.put_depth-2.ensures refl)
    (ap (λ (l : List ℕ). with_stack 1 l s) (set_same c.stack-stack.ensures refl aims)
    ∙ rw (
      ne_eqb s.job.action revert (lays (goal.at.returns c).Else-job-eq-REVERT),
      ne_eqb s.job.action apply (replaces (goal.at.returns c).Else-job-eq-APPLY),
    ))

pub job-job-requires : goal.job-job-requires
job-job-requires c = state-length _ c.requires.0

pub depth-depth-requires : goal.depth-depth-requires
depth-depth-requires c = state-length _ c.requires.0

pub overflow_sub-depth : goal.overflow_sub-depth
overflow_sub-depth c = omega (arith, some (goal.at.overflow_sub-depth c).Then-job-eq-REVERT, c.depth-depth.ensures)

pub put_depth-requires : goal.put_depth-requires
put_depth-requires c = c.requires.0

pub stack-stack-requires : goal.stack-stack-requires
stack-stack-requires c = state-length _ c.requires.0

pub offset_bounds-stack-depth : goal.offset_bounds-stack-depth
offset_bounds-stack-depth c = omega (arith, room (goal.at.offset_bounds-stack-depth c).Then-job-eq-APPLY, c.depth-depth.ensures)

pub bounds-stack-depth : goal.bounds-stack-depth
bounds-stack-depth c = omega (arith, room (goal.at.bounds-stack-depth c).Then-job-eq-APPLY, c.depth-depth.ensures)

pub put_stack-requires : goal.put_stack-requires
put_stack-requires c = c.requires.0

pub overflow_add-depth : goal.overflow_add-depth
overflow_add-depth c = omega (arith, room (goal.at.overflow_add-depth c).Then-job-eq-APPLY, c.depth-depth.ensures)

pub put_depth-requires-then-job-eq-APPLY : goal.put_depth-requires-then-job-eq-APPLY
put_depth-requires-then-job-eq-APPLY c = c.put_stack.ensures.whole

pub put_stack-requires-2 : goal.put_stack-requires-2
put_stack-requires-2 c = c.requires.0

pub put_depth-requires-2 : goal.put_depth-requires-2
put_depth-requires-2 c = c.put_stack-2.ensures.whole
