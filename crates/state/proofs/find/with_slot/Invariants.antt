-- `find::with_slot` meets its contract: what is found from payload `i` on is what is found from the first on.
use mathlib.Core.Path.{◌≡◌}
use lib.ListN.{drop}
use Rattle.words.specs.Find.{where_from}
use Rattle.state.specs.Find.{with_slot, is_in}
use Rattle.state.specs.State.{loaded}
use Rattle.state.proofs.find.with_slot.Given as goal

abbrev pub invariant-loop-i : goal.invariant-loop-i
invariant-loop-i l = with_slot l.state l.slot ≡ where_from (is_in l.slot) l.i (drop l.i (loaded l.state))
