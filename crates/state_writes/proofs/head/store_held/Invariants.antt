-- `store_held` meets its contract: the bytes of the first `i` CPUs are written.
use mathlib.Core.List.{map}
use Rattle.words.proofs.Written.{Written}
use Rattle.state_bytes.specs.Layout.{held_place}
use Rattle.state_bytes.specs.Stored.{flag_byte}
use Rattle.state_writes.proofs.head.store_held.Given as goal

abbrev pub invariant-loop-i : goal.invariant-loop-i
invariant-loop-i l = Written l.initial.b held_place (map flag_byte l.flag-items) l.i l.b
