-- `jump_edit` meets its contract.
use Rattle.words.proofs.Tests.{held, refuted}
use Rattle.functions.specs.Edits.{jump_edit}
use Rattle.functions.proofs.edits.jump_edit.Goals as goal

pub returns-then-not-reaches : goal.returns-then-not-reaches
unfolding jump_edit
returns-then-not-reaches c = rw (← c.displacement-displacement.ensures, refuted c.reaches.ensures c.if-not-reaches.true)

pub returns : goal.returns
unfolding jump_edit
returns c = rw (
  ← c.displacement-displacement.ensures,
  held c.reaches.ensures c.if-not-reaches.false,
  c.jump_length.ensures.0,
)
