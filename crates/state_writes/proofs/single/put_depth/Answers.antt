-- `single::put_depth` meets its contract.
use native.Mathlib.Omega.{arith}
use Rattle.state_bytes.proofs.Laws.{state-length}
use Rattle.state_writes.proofs.Replaced.{depth-replaced}
use Rattle.state_writes.proofs.single.put_depth.Goals as goal

pub store8-requires : goal.store8-requires
store8-requires c = omega (arith, state-length _ c.requires)

pub returns : goal.returns
returns c = depth-replaced c.args.b.now (λ i. omega (arith, c.slice_known-1.given i)) c.requires c.args.depth c.store8.ensures.x_bound c.store8.ensures.b_after
