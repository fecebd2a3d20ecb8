-- The rule of each field and the machine of each processor; and what a payload is prepared for: the processor, the hypervisor's text and the payload's slot.
use Rattle.std.specs.Prelude.{ℕ, List}
use Rattle.words.specs.Splice.{part, splice}
use Rattle.machine.specs.Machine.{FieldRule, Machine}
use Rattle.machine.specs.X86.{absolute, relative, x86_64}
use Rattle.machine.specs.declared.fields.FieldType.{FieldType}
use Rattle.machine.specs.declared.fields.FieldType.TheVariants.{Absolute, Relative}
use Rattle.machine.specs.declared.host.Host.{Host}
use Rattle.machine.specs.declared.processor.Processor.{Processor}
use Rattle.machine.specs.declared.processor.Processor.TheVariants.{X86_64}

-- "Text: 1 to 16,777,216 bytes"
abbrev pub text_max : ℕ
text_max = 16777216

abbrev pub rule_of : FieldType → FieldRule
rule_of Absolute = absolute
rule_of Relative = relative

-- bytes with a field stored at at: its new bytes come of its old ones and the value
abbrev pub with_field : FieldType → List ℕ → ℕ → ℕ → List ℕ
with_field f bytes at v = splice bytes at ((rule_of f).bytes (part bytes at (rule_of f).width) v)

abbrev pub machine_of : Processor → Machine
machine_of X86_64 = x86_64

-- the processor of a host
abbrev pub host_machine : Host → Machine
host_machine h = machine_of h.processor
