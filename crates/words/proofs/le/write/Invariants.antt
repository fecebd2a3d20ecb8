-- `le::write` meets its contract: the first `i` bytes are written, and `y` is what is left of the number.
use Rattle.std.proofs.Common.{◌≡◌, ◌-◌, drop}
use Rattle.words.specs.Number.{le_bytes}
use Rattle.words.proofs.Written.{Written}
use Rattle.words.proofs.le.write.Given as goal

abbrev pub invariant-loop-i : goal.invariant-loop-i
invariant-loop-i l = Written l.initial.s l.at (le_bytes l.n l.x) l.i l.s × (drop l.i (le_bytes l.n l.x) ≡ le_bytes (l.n - l.i) l.y)
