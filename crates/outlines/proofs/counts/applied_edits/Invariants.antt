-- `counts::applied_edits` meets its contract: the total, and the edits of the stack from this slot on, are all.
use Prim.Native.Nat.{◌+◌, ◌*◌, ◌^◌, ◌≤◌}
use mathlib.Core.Path.{◌≡◌}
use lib.ListN.{length, drop}
use Rattle.state.specs.State.{stack_of}
use Rattle.state.specs.Steps.{removals_in}
use Rattle.state.specs.declared.state.State.{State}
use Rattle.outlines.specs.Outline.{Outlines}
use Rattle.outlines.proofs.counts.applied_edits.Given as goal

abbrev pub invariant-loop-i : goal.invariant-loop-i
invariant-loop-i l = (l.total ≤ 2 ^ 32 * l.i)
    × ((s : State) → Outlines l.outline s →
    l.total + length (removals_in s (drop l.i (stack_of s))) ≡ length (removals_in s (stack_of s)))
