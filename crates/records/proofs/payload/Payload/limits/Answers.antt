-- `Payload::limits` meets its contract.
use mathlib.Core.Path.{refl}
use Rattle.records.specs.Limits.{all_limits}
use Rattle.records.proofs.payload.Payload.limits.Goals as goal

pub returns : goal.returns
unfolding all_limits
returns c = refl
