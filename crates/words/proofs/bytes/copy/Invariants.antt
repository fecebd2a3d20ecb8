-- `bytes::copy` meets its contract: the first `i` bytes are written.
use Rattle.words.proofs.Written.{Written}
use Rattle.words.proofs.bytes.copy.Given as goal

abbrev pub invariant-loop-i : goal.invariant-loop-i
invariant-loop-i l = Written l.initial.s l.at l.new l.i l.s
