-- `build::record_count` meets its contract.
use mathlib.Core.Path.{refl}
use Rattle.object.specs.Sections.{no_entry}
use Rattle.prepare.proofs.build.record_count.Goals as goal

pub returns : goal.returns
unfolding no_entry
returns c = refl
