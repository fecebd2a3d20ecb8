-- `head::load_stack` meets its contract: the first `i` elements are the first `i` numbers.
use Prim.Native.Nat.{◌+◌, ◌*◌}
use mathlib.Core.Path.{◌≡◌}
use Rattle.words.specs.Number.{le_at}
use Rattle.words.specs.Scan.{filled}
use Rattle.memory.specs.Memory.{slot_count}
use Rattle.state_bytes.specs.Layout.{stack_place}
use Rattle.state_bytes.proofs.head.load_stack.Given as goal

abbrev pub invariant-loop-i : goal.invariant-loop-i
invariant-loop-i l = l.slot-items ≡ filled (λ j. le_at 4 l.b (stack_place + 4 * j)) 0 slot_count l.i
