-- `be::read` meets its contract: `x` is the number of the first `i` bytes.
use Rattle.std.proofs.Common.{◌≡◌, ◌^◌, ◌<◌}
use Rattle.words.specs.Number.{be_at}
use Rattle.words.proofs.be.read.Given as goal

abbrev pub invariant-loop-i : goal.invariant-loop-i
invariant-loop-i l = (l.x ≡ be_at l.i l.s l.at) × (l.x < 256 ^ l.i)
