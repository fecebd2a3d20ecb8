-- `BuildId::none` meets its contract.
use mathlib.Core.Path.{refl}
use Rattle.records.specs.Payload.{no_id}
use Rattle.records.proofs.payload.BuildId.none.Goals as goal

pub returns : goal.returns
unfolding no_id
returns c = refl
