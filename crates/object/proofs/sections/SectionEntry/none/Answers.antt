-- `sections::SectionEntry::none` meets its contract.
use mathlib.Core.Path.{refl}
use Rattle.object.specs.Sections.{no_entry}
use Rattle.object.proofs.sections.SectionEntry.none.Goals as goal

pub returns : goal.returns
unfolding no_entry
returns c = refl
