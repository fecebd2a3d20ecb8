-- `bound_for` meets its contract.
use mathlib.Core.Path.{◌≡◌}
use mathlib.Core.Bool.{true}
use native.Mathlib.Omega.{arith}
use Rattle.words.proofs.Tests.{held, refuted}
use Rattle.placement.specs.Placement.{is_placed}
use Rattle.placement.proofs.bound_for.Goals as goal
use Rattle.placement.proofs.bound_for.Goals.{Else-not-is_placed}

pub returns-then-not-is_placed : goal.returns-then-not-is_placed
returns-then-not-is_placed c = rw (refuted c.is_placed.ensures c.if-not-is_placed.true)

-- past the test the section is placed
placed : (c : goal.Else-not-is_placed) → is_placed c.args.s ≡ true
placed c = held c.is_placed.ensures c.if-not-is_placed.false

pub overflow_add-result : goal.overflow_add-result
overflow_add-result c = omega (arith, rw (placed (goal.at.overflow_add-result c).Else-not-is_placed) at c.requires)

pub returns : goal.returns
returns c = rw (placed (goal.at.returns c).Else-not-is_placed)
