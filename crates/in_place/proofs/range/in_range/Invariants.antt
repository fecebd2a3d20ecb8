-- `range::in_range` meets its contract: all payloads pass exactly where those from `i` on do.
use mathlib.Core.Path.{◌≡◌}
use lib.ListN.{drop}
use Rattle.words.specs.Find.{every}
use Rattle.state.specs.State.{loaded}
use Rattle.ranges.specs.Ranges.{payload_in_range}
use Rattle.state_bytes.specs.Stored.{state_in}
use Rattle.in_place.proofs.range.in_range.Given as goal

abbrev pub invariant-loop-i : goal.invariant-loop-i
invariant-loop-i l = let s = state_in l.b in
    every (payload_in_range s.config) (loaded s) ≡ every (payload_in_range s.config) (drop l.i (loaded s))
