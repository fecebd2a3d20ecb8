-- `write_entry` meets its contract: zeros, and the address, the length and the edit's bytes over them, are the entry.
use mathlib.Core.Path.{◌∙◌}
use native.Mathlib.Omega.{arith}
use Rattle.machine.specs.Host.{host_machine}
use Rattle.encode.proofs.Laws.{entry-laid}
use Rattle.encode.proofs.write_entry.Goals as goal

pub returns : goal.returns
returns c = let a = c.args in
    c.write_edit.ensures
    ∙ rw (c.write-2.ensures, c.write.ensures, c.fill.ensures)
    (entry-laid (host_machine a.host) a.host.text a.edit (omega arith) a.buffer.now a.at (omega arith))
