-- `le::read` meets its contract: the loop goes from the highest byte down, and `x` is the number of the bytes passed.
use Rattle.std.proofs.Common.{◌≡◌, ◌+◌, ◌-◌, ◌^◌, ◌<◌}
use Rattle.words.specs.Number.{le_at}
use Rattle.words.proofs.le.read.Given as goal

abbrev pub invariant-loop-i : goal.invariant-loop-i
invariant-loop-i l = (l.x ≡ le_at (l.n - l.i) l.s (l.at + l.i)) × (l.x < 256 ^ (l.n - l.i))
