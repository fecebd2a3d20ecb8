-- `hex::decode` meets its contract: the first `i` bytes are written.
use lib.ListN.{take}
use Rattle.words.proofs.Written.{Written}
use Rattle.script.specs.Hex.{hex_bytes}
use Rattle.script.proofs.hex.decode.Given as goal

abbrev pub invariant-loop-i : goal.invariant-loop-i
invariant-loop-i l = Written l.initial.out l.at (take l.n (hex_bytes l.s)) l.i l.out
