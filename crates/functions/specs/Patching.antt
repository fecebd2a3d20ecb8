-- What function records are read from and judged by.
use Rattle.std.specs.Prelude.{List, ℕ}
use Rattle.machine.specs.Host.{host_machine}
use Rattle.machine.specs.Machine.{Machine}
use Rattle.machine.specs.declared.host.Host.{Host}

pub record Patching : Type 0 where
  -- the processor, the text and the slot
  pub host : Host
  -- the slot's placed bytes
  pub placed : List ℕ
  -- the symbol list
  pub list : List ℕ

abbrev pub patching : Host → List ℕ → List ℕ → Patching
patching host placed list = record { host = host; placed = placed; list = list }

abbrev pub machine_for : Patching → Machine
machine_for p = host_machine p.host
