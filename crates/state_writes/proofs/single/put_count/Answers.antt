-- `single::put_count` meets its contract.
use native.Mathlib.Omega.{arith}
use Rattle.state_bytes.proofs.Laws.{state-length}
use Rattle.state_writes.proofs.Replaced.{count-replaced}
use Rattle.state_writes.proofs.single.put_count.Goals as goal

pub store8-requires : goal.store8-requires
store8-requires c = omega (arith, state-length _ c.requires)

pub returns : goal.returns
returns c = count-replaced c.args.b.now (λ i. omega (arith, c.slice_known-1.given i)) c.requires c.args.count c.store8.ensures.x_bound c.store8.ensures.b_after
