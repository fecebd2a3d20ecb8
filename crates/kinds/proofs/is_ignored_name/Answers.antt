-- `is_ignored_name` meets its contract.
use Rattle.kinds.specs.Kinds.{is_ignored_name}
use Rattle.kinds.proofs.is_ignored_name.Goals as goal

pub returns-then-same : goal.returns-then-same
unfolding is_ignored_name
returns-then-same c = rw (← c.same.ensures, c.if-same.true)

pub returns-then-same-2 : goal.returns-then-same-2
unfolding is_ignored_name
returns-then-same-2 c = rw (← c.same.ensures, c.if-same.false, ← c.same-2.ensures, c.if-same-2.true)

pub returns : goal.returns
unfolding is_ignored_name
returns c = rw (← c.same.ensures, c.if-same.false, ← c.same-2.ensures, c.if-same-2.false) c.starts_with.ensures
