-- `be::write` meets its contract: the loop goes from the lowest byte up, from the last place down. The bytes from `i` on are laid, and `y` is what is left of the number.
use Rattle.std.proofs.Common.{◌≡◌, ◌+◌, ◌-◌, ◌/◌, ◌^◌}
use Rattle.words.specs.Splice.{splice}
use Rattle.words.specs.Number.{be_bytes}
use Rattle.words.proofs.be.write.Given as goal

abbrev pub invariant-loop-i : goal.invariant-loop-i
invariant-loop-i l = (l.y ≡ l.x / 256 ^ (l.n - l.i))
    × (l.s ≡ splice l.initial.s (l.at + l.i) (be_bytes (l.n - l.i) l.x))
