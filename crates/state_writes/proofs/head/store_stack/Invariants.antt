-- `store_stack` meets its contract: the first `i` slots are written.
use Rattle.words.specs.Number.{le_at, le_bytes}
use Rattle.state_bytes.specs.Layout.{stack_place}
use Rattle.state_bytes.proofs.Rows.{Table}
use Rattle.state_writes.proofs.head.store_stack.Given as goal

abbrev pub invariant-loop-i : goal.invariant-loop-i
invariant-loop-i l = Table (le_bytes 4) (le_at 4) 4 l.slot-items 0 l.initial.b stack_place l.i l.b
