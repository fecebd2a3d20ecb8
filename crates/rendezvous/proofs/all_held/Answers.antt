-- `all_held` meets its contract: all CPUs are held exactly where those from `i` on are.
use Rattle.std.proofs.Common.{◌≡◌, ◌≤◌, false, length, refl, sym, ◌∙◌, arith}
use Rattle.words.proofs.Find.{every-turn, every-end}
use Rattle.memory.specs.Config.{cpus_max}
use Rattle.rendezvous.proofs.all_held.Goals as goal
use Rattle.rendezvous.proofs.all_held.Goals.{Start}

-- a CPU has its place among those that may be held: a job that is owned has its array whole
module _ (c : goal.Start) where
  whole : length c.args.job.held ≡ cpus_max
  whole = let held = c.well_formed.0.1.1.1.1.0 in held.1.0.1

  many : c.args.count ≤ length c.args.job.held
  many = omega (arith, whole)

pub loop-i-init : goal.loop-i-init
loop-i-init c = refl

pub returns-then-not-job-i : goal.returns-then-not-job-i
returns-then-not-job-i c = sym
    (c.loop-i.invariant
    ∙ every-turn _ _ _ c.loop-i.i (many (goal.at.returns-then-not-job-i c).Start) false (omega arith)
    ∙ rw c.if-not-job-i.true)

pub loop-i-preserved : goal.loop-i-preserved
loop-i-preserved c =
    c.loop-i.invariant
    ∙ every-turn _ _ _ c.loop-i.i (many (goal.at.loop-i-preserved c).Start) false (omega arith)
    ∙ rw c.if-not-job-i.false

pub returns : goal.returns
returns c = sym (c.loop-i.invariant ∙ every-end _ _ _ _ (many (goal.at.returns c).Start) (omega arith))
