-- `sections::known_flags` meets its contract.
use mathlib.Core.Path.{refl}
use Rattle.object.specs.Sections.{known_flags}
use Rattle.object.proofs.sections.known_flags.Goals as goal

pub returns : goal.returns
unfolding known_flags
returns c = refl
