-- `starting::begin` meets its contract: zeros over the front of the text, and the build-id kept.
use Rattle.std.proofs.Common.{refl}
use lib.ListN.{length-replicate}
use Rattle.interpreter.proofs.Front.{front-written}
use Rattle.interpreter.proofs.starting.begin.Goals as goal

pub returns : goal.returns
returns c = let a = c.args in (
  refl,
  rw c.fill.ensures (front-written a.text.now _ a.size (length-replicate a.size 0)),
  rw c.copy.ensures (front-written a.id.now a.new.now _ refl),
)
