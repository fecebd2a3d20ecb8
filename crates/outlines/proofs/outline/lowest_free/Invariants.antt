-- `outline::lowest_free` meets its contract: the lowest free slot from `slot` on is the lowest of all.
use Rattle.std.proofs.Common.{Some, None}
use Prim.Native.Nat.{◌-◌}
use mathlib.Core.Bool.{cond}
use mathlib.Core.Path.{◌≡◌}
use Rattle.words.specs.Scan.{scan}
use Rattle.memory.specs.Memory.{slot_count}
use Rattle.state.specs.Find.{is_taken, lowest_free}
use Rattle.state.specs.declared.state.State.{State}
use Rattle.outlines.specs.Outline.{Outlines}
use Rattle.outlines.proofs.outline.lowest_free.Given as goal

abbrev pub invariant-loop-slot : goal.invariant-loop-slot
invariant-loop-slot l = (s : State) → Outlines l.outline s →
    lowest_free s ≡ scan (λ i rest. cond (is_taken s i) rest (Some i)) None l.slot (slot_count - l.slot)
