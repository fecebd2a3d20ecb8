-- `all_held` meets its contract: all CPUs are held exactly where those from `i` on are.
use Rattle.std.proofs.Common.{◌≡◌, drop, take}
use Rattle.words.specs.Find.{every}
use Rattle.rendezvous.proofs.all_held.Given as goal

abbrev pub invariant-loop-i : goal.invariant-loop-i
invariant-loop-i l = every (λ held. held) (take l.count l.job.held) ≡ every (λ held. held) (drop l.i (take l.count l.job.held))
