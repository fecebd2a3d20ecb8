-- `write_edits` meets its contract: the invariant is that the first `r` entries are laid.
use mathlib.Core.Path.{◌≡◌}
use lib.ListN.{length}
use Rattle.words.specs.Splice.{splice}
use Rattle.machine.specs.Host.{host_machine}
use Rattle.encode.specs.Encode.{rows}
use Rattle.encode.proofs.write_edits.Given as goal

abbrev pub invariant-loop-r : goal.invariant-loop-r
invariant-loop-r l = (l.buffer ≡ splice l.initial.buffer 0 (rows (host_machine l.host) l.host.text l.edits l.count l.r)) × (length l.buffer ≡ length l.initial.buffer)
