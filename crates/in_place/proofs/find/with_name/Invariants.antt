-- `find::with_name` meets its contract: what is found from payload `i` on is what is found from the first on.
use mathlib.Core.Path.{◌≡◌}
use lib.ListN.{drop}
use Rattle.words.specs.Find.{where_from}
use Rattle.state.specs.Find.{is_named, with_name}
use Rattle.state.specs.State.{loaded}
use Rattle.state_bytes.specs.Stored.{state_in}
use Rattle.in_place.proofs.find.with_name.Given as goal

abbrev pub invariant-loop-i : goal.invariant-loop-i
invariant-loop-i l = with_name (state_in l.b) l.name ≡ where_from (is_named l.name) l.i (drop l.i (loaded (state_in l.b)))
