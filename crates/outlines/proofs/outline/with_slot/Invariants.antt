-- `outline::with_slot` meets its contract: what is found from payload `i` on is what is found from the first on.
use mathlib.Core.Path.{◌≡◌}
use lib.ListN.{drop}
use Rattle.words.specs.Find.{where_from}
use Rattle.state.specs.Find.{with_slot, is_in}
use Rattle.state.specs.State.{loaded}
use Rattle.state.specs.declared.state.State.{State}
use Rattle.outlines.specs.Outline.{Outlines}
use Rattle.outlines.proofs.outline.with_slot.Given as goal

abbrev pub invariant-loop-i : goal.invariant-loop-i
invariant-loop-i l = (s : State) → Outlines l.fn.outline s → with_slot s l.slot ≡ where_from (is_in l.slot) l.i (drop l.i (loaded s))
