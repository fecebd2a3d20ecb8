-- The processors, by cases.
use mathlib.Core.Path.{◌≡◌, refl}
use Rattle.machine.specs.declared.processor.Processor.{Processor}
use Rattle.machine.specs.declared.processor.Processor.TheVariants.{X86_64}

-- there is one
pub only : (p : Processor) → p ≡ X86_64
only X86_64 = refl
