-- `head::load_held` meets its contract: the first `i` elements are those of the first `i` bytes.
use mathlib.Core.Path.{◌≡◌}
use mathlib.Core.Bool.{false}
use native.Mathlib.Omega.{arith}
use Rattle.words.proofs.Scan.{fill-begin, fill-turn}
use Rattle.memory.specs.Config.{cpus_max}
use Rattle.state_bytes.specs.Layout.{held_place}
use Rattle.state_bytes.specs.Stored.{is_set, held_at}
use Rattle.state_bytes.proofs.Loads.{filled-part}
use Rattle.state_bytes.proofs.head.load_held.Goals as goal

pub loop-i-init : goal.loop-i-init
loop-i-init c = fill-begin _ _ _

pub loop-i-preserved : goal.loop-i-preserved
loop-i-preserved c =
    rw c.loop-i.invariant (fill-turn _ false cpus_max _ (omega arith))

pub returns : goal.returns
unfolding held_at
returns c = let all : c.loop-i.i ≡ cpus_max = omega arith in
    rw (c.loop-i.invariant, all) (filled-part is_set false _ held_place cpus_max (omega arith))
