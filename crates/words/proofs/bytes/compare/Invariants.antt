-- `bytes::compare` meets its contract: the answer is that for what is left of the strings, after the bytes compared before.
use Rattle.std.proofs.Common.{◌≡◌}
use Rattle.words.specs.Order.{comparison}
use Rattle.words.proofs.Order.{after}
use Rattle.words.proofs.bytes.compare.Given as goal

abbrev pub invariant-loop-i : goal.invariant-loop-i
invariant-loop-i l = comparison l.a l.b ≡ after l.a l.b l.i
