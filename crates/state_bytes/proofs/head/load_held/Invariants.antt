-- `head::load_held` meets its contract: the first `i` elements are those of the first `i` bytes.
use Prim.Native.Nat.{◌+◌}
use mathlib.Core.Path.{◌≡◌}
use mathlib.Core.Bool.{false}
use lib.ListN.{get_or}
use Rattle.words.specs.Scan.{filled}
use Rattle.memory.specs.Config.{cpus_max}
use Rattle.state_bytes.specs.Layout.{held_place}
use Rattle.state_bytes.specs.Stored.{is_set}
use Rattle.state_bytes.proofs.head.load_held.Given as goal

abbrev pub invariant-loop-i : goal.invariant-loop-i
invariant-loop-i l = l.flag-items ≡ filled (λ j. is_set (get_or l.b (held_place + j) 0)) false cpus_max l.i
