-- `bytes::find_zero` meets its contract: what is found from `i` on is what is found from `from` on.
use Rattle.std.proofs.Common.{◌≡◌}
use Rattle.words.specs.Name.{zero_from}
use Rattle.words.proofs.bytes.find_zero.Given as goal

abbrev pub invariant-loop-i : goal.invariant-loop-i
invariant-loop-i l = zero_from l.s l.from ≡ zero_from l.s l.i
