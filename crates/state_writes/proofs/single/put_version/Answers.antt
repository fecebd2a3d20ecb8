-- `single::put_version` meets its contract.
use native.Mathlib.Omega.{arith}
use Rattle.state_bytes.proofs.Laws.{state-length}
use Rattle.state_writes.proofs.Replaced.{version-replaced}
use Rattle.state_writes.proofs.single.put_version.Goals as goal

pub store4-requires : goal.store4-requires
store4-requires c = omega (arith, state-length _ c.requires)

pub returns : goal.returns
returns c = version-replaced c.args.b.now (λ i. omega (arith, c.slice_known-1.given i)) c.requires c.args.version c.store4.ensures.x_bound c.store4.ensures.b_after
