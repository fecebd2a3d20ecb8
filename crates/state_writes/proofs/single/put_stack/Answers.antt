-- `single::put_stack` meets its contract.
use native.Mathlib.Omega.{arith}
use Rattle.state_bytes.proofs.Laws.{state-length}
use Rattle.state_writes.proofs.Replaced.{stack-replaced}
use Rattle.state_writes.proofs.single.put_stack.Goals as goal

pub store_stack-requires : goal.store_stack-requires
store_stack-requires c = state-length _ c.requires

pub returns : goal.returns
returns c = stack-replaced c.args.b.now (λ i. omega (arith, c.slice_known-1.given i)) c.requires c.args.stack c.store_stack.ensures.stack_len.0
    c.store_stack.ensures.stack_len.1 c.store_stack.ensures.b_after
