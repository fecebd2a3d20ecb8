-- `head::load_stack` meets its contract: the first `i` elements are the first `i` numbers.
use mathlib.Core.Path.{◌≡◌}
use native.Mathlib.Omega.{arith}
use Rattle.words.proofs.Scan.{fill-begin, fill-turn}
use Rattle.memory.specs.Memory.{slot_count}
use Rattle.state_bytes.proofs.Loads.{filled-rows}
use Rattle.state_bytes.proofs.head.load_stack.Goals as goal

pub loop-i-init : goal.loop-i-init
loop-i-init c = fill-begin _ _ _

pub loop-i-preserved : goal.loop-i-preserved
loop-i-preserved c =
    rw (c.loop-i.invariant, c.load4.ensures) (fill-turn _ 0 slot_count _ (omega arith))

pub returns : goal.returns
returns c = let all : c.loop-i.i ≡ slot_count = omega arith in
    rw (c.loop-i.invariant, all) (filled-rows _ _ _ _ _ _)
