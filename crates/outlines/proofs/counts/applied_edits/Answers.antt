-- `counts::applied_edits` meets its contract: the total, and the edits of the stack from place `i` on, are all.
use Prim.Native.Nat.{ℕ, ◌+◌, ◌≤◌, ◌<◌}
use mathlib.Core.Path.{◌≡◌}
use native.Mathlib.Omega.{arith}
use lib.ListN.{length, get_or, drop}
use Rattle.words.proofs.Find.{left_at, left-none}
use Rattle.state.specs.Find.{payload_in}
use Rattle.state.specs.State.{stack_of}
use Rattle.state.specs.Steps.{removals_in}
use Rattle.state.specs.declared.state.State.{State}
use Rattle.state.proofs.StepLaws.{length-removals-none, length-removals-in, length-removals-reverse}
use Rattle.outlines.specs.Outline.{Outlines}
use Rattle.outlines.proofs.counts.applied_edits.Goals as goal
use Rattle.outlines.proofs.counts.applied_edits.Goals.{Start}

deep : (c : goal.Start) (s : State) → Outlines c.args.outline s → s.depth ≤ length s.stack
deep c s h = omega (arith, h.depth, h.stacked)

pub loop-i-init : goal.loop-i-init
loop-i-init c = (omega arith, λ s h. omega arith)

-- a turn: the slot at place `i` is counted
counted :
    (s : State) (i total all : ℕ) → s.depth ≤ length s.stack → i < s.depth →
    total + length (removals_in s (drop i (stack_of s))) ≡ all →
    total + (payload_in s (get_or s.stack i 0)).edit_count + length (removals_in s (drop (i + 1) (stack_of s))) ≡ all
counted s i total all fits here e =
    let parts = length-removals-in s (get_or s.stack i 0) (drop (i + 1) (stack_of s)) in
    omega (arith, rw (left_at s.stack s.depth i fits 0 here) at e, parts)

pub loop-i-preserved : goal.loop-i-preserved
loop-i-preserved c = (
  omega arith,
  λ s h.
      let here : c.loop-i.i < s.depth = omega (arith, h.depth) in
      rw (c.edits_in.ensures s h, h.stack)
      (counted s _ _ _ (deep (goal.at.loop-i-preserved c).Start s h) here (c.loop-i.invariant.1 s h)),
)

pub returns : goal.returns
returns c = (
  λ s h.
      let ended : s.depth ≤ c.loop-i.i = omega (arith, h.depth) in
      let none = left-none s.stack s.depth c.loop-i.i (deep (goal.at.returns c).Start s h) ended in
      rw length-removals-reverse (omega (arith, rw (none, length-removals-none s) at (c.loop-i.invariant.1 s h))),
  omega arith,
)
