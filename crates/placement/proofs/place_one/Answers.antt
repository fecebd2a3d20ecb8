-- `place_one` meets its contract.
use Prim.Native.Nat.{ℕ, ◌+◌, ◌≤◌}
use mathlib.Core.Path.{◌≡◌}
use mathlib.Core.Bool.{true}
use native.Mathlib.Omega.{arith}
use borrow.Author.Tests.{le-leb, leb-true}
use Rattle.words.proofs.Tests.{held, refuted}
use Rattle.records.specs.Limits.{placed_max}
use Rattle.placement.specs.Placement.{is_placed, step_of}
use Rattle.placement.proofs.place_one.Goals as goal
use Rattle.placement.proofs.place_one.Goals.{Else-not-is_placed, Else-not-lies_within}

pub returns-then-not-is_placed : goal.returns-then-not-is_placed
unfolding step_of
returns-then-not-is_placed c = rw (refuted c.is_placed.ensures c.if-not-is_placed.true, le-leb _ _ c.requires)

-- past the first test the section is placed
placed : (c : goal.Else-not-is_placed) → is_placed c.args.s ≡ true
placed c = held c.is_placed.ensures c.if-not-is_placed.false

pub returns-then-not-lies_within : goal.returns-then-not-lies_within
unfolding step_of
returns-then-not-lies_within c = rw (placed (goal.at.returns-then-not-lies_within c).Else-not-is_placed, ← c.next_multiple-start.ensures, refuted c.lies_within.ensures c.if-not-lies_within.true)

-- past the second it lies in the slot
abbrev end-at : goal.Else-not-lies_within → ℕ
end-at c =
    c.next_multiple-start.result + c.args.s.header.sh_size

inside : (c : goal.Else-not-lies_within) → end-at c ≤ placed_max
inside c = leb-true (end-at c) placed_max (held c.lies_within.ensures c.if-not-lies_within.false)

pub overflow_add-result : goal.overflow_add-result
overflow_add-result c = omega (arith, inside (goal.at.overflow_add-result c).Else-not-lies_within)

pub returns : goal.returns
unfolding step_of
returns c = rw (placed (goal.at.returns c).Else-not-is_placed, ← c.next_multiple-start.ensures, le-leb _ _ (inside (goal.at.returns c).Else-not-lies_within))
