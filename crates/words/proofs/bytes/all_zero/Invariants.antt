-- `bytes::all_zero` meets its contract: all bytes are zero exactly where those left are.
use Rattle.std.proofs.Common.{◌≡◌, drop}
use Rattle.words.specs.Order.{all_zero}
use Rattle.words.proofs.bytes.all_zero.Given as goal

abbrev pub invariant-loop-b : goal.invariant-loop-b
invariant-loop-b l = all_zero l.s ≡ all_zero (drop l.b-index l.s)
