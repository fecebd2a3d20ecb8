-- `bytes::same` meets its contract: the lists are equal exactly where what is left of them is.
use Rattle.std.proofs.Common.{◌≡◌, drop}
use Rattle.words.specs.Order.{equal}
use Rattle.words.proofs.bytes.same.Given as goal

abbrev pub invariant-loop-i : goal.invariant-loop-i
invariant-loop-i l = equal l.a l.b ≡ equal (drop l.i l.a) (drop l.i l.b)
