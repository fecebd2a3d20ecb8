-- `is_placed_name` meets its contract.
use Rattle.kinds.specs.Kinds.{is_placed_name}
use Rattle.kinds.proofs.is_placed_name.Goals as goal

pub returns-then-in_family : goal.returns-then-in_family
unfolding is_placed_name
returns-then-in_family c = rw (← c.in_family.ensures, c.if-in_family.true)

pub returns-then-in_family-2 : goal.returns-then-in_family-2
unfolding is_placed_name
returns-then-in_family-2 c = rw (← c.in_family.ensures, c.if-in_family.false, ← c.in_family-2.ensures, c.if-in_family-2.true)

pub returns-then-in_family-3 : goal.returns-then-in_family-3
unfolding is_placed_name
returns-then-in_family-3 c = rw (
  ← c.in_family.ensures,
  c.if-in_family.false,
  ← c.in_family-2.ensures,
  c.if-in_family-2.false,
  ← c.in_family-3.ensures,
  c.if-in_family-3.true,
)

pub returns : goal.returns
unfolding is_placed_name
returns c = rw (
  ← c.in_family.ensures,
  c.if-in_family.false,
  ← c.in_family-2.ensures,
  c.if-in_family-2.false,
  ← c.in_family-3.ensures,
  c.if-in_family-3.false,
)
    c.in_family-4.ensures
