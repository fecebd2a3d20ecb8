-- Document 01: what start-up is given, and when it refuses.
use Rattle.std.specs.Prelude.{ℕ, ◌+◌, ◌%◌, ◌^◌, Bool, not, ◌&&◌, ◌||◌, leb, eqb}
use Rattle.records.specs.Limits.{id_min, id_max}
use Rattle.machine.specs.Host.{text_max}
use Rattle.machine.specs.declared.host.Host.{Host}
use Rattle.machine.specs.declared.processor.Processor.TheVariants.{X86_64}
use Rattle.memory.specs.Memory.{arena_size, slot_at}
use Rattle.memory.specs.declared.config.Config.{Config}

-- "a CPU count of 1 to 64"
abbrev pub cpus_max : ℕ
cpus_max = 64

-- "a multiple of 4,096"
abbrev pub arena_align : ℕ
arena_align = 4096

-- "Text: 1 to 16,777,216 bytes at a base address", whose last byte lies at 2^64 - 1 or before
unfoldable pub text_ok : Config → Bool
text_ok c =
    leb 1 c.text_length
    && leb c.text_length text_max
    && leb (c.text + c.text_length) (2 ^ 64)

-- "base a multiple of 4,096, not 0", and the last byte likewise
unfoldable pub arena_ok : Config → Bool
arena_ok c =
    not (eqb c.arena 0)
    && eqb (c.arena % arena_align) 0
    && leb (c.arena + arena_size) (2 ^ 64)

-- "or text and arena share an address": they do not
unfoldable pub are_apart : Config → Bool
are_apart c = leb (c.text + c.text_length) c.arena || leb (c.arena + arena_size) c.text

-- "Hypervisor build-id, 1 to 64 bytes" (W1); "a CPU count of 1 to 64"
unfoldable pub counts_ok : Config → Bool
counts_ok c =
    leb id_min c.id_length
    && leb c.id_length id_max
    && leb 1 c.cpus
    && leb c.cpus cpus_max

-- all that start-up asks of the numbers
unfoldable pub config_ok : Config → Bool
config_ok c = text_ok c && arena_ok c && are_apart c && counts_ok c

-- the configuration of no unit: its numbers are out of their ranges
abbrev pub no_config : Config
no_config = record { processor = X86_64; text = 0; text_length = 0; arena = 0; id_length = 0; cpus = 0 }

-- what a payload in this slot is prepared for
abbrev pub host_for : Config → ℕ → Host
host_for c slot =
    record { processor = c.processor; text = c.text; text_length = c.text_length; slot = c.arena + slot_at slot }
