-- `note_head_ok` meets its contract.
use borrow.Author.Tests.{le-leb, lt-leb, eq-eqb, ne_eqb}
use Rattle.notes.specs.Notes.{note_head_ok}
use Rattle.notes.proofs.note_head_ok.Goals as goal

pub returns-then-head-ne4 : goal.returns-then-head-ne4
unfolding note_head_ok
returns-then-head-ne4 c = rw (ne_eqb _ _ c.if-head-ne4.true)

pub returns-then-head : goal.returns-then-head
unfolding note_head_ok
returns-then-head c = rw (eq-eqb _ _ c.if-head-ne4.false, lt-leb _ _ c.if-head.true)

pub returns-then-head-2 : goal.returns-then-head-2
unfolding note_head_ok
returns-then-head-2 c = rw (eq-eqb _ _ c.if-head-ne4.false, le-leb _ _ c.if-head.false, lt-leb _ _ c.if-head-2.true)

pub returns-then-head-ne3 : goal.returns-then-head-ne3
unfolding note_head_ok
returns-then-head-ne3 c = rw (
  eq-eqb _ _ c.if-head-ne4.false,
  le-leb _ _ c.if-head.false,
  le-leb _ _ c.if-head-2.false,
  ne_eqb _ _ c.if-head-ne3.true,
)

pub returns : goal.returns
unfolding note_head_ok
returns c = rw (
  eq-eqb _ _ c.if-head-ne4.false,
  le-leb _ _ c.if-head.false,
  le-leb _ _ c.if-head-2.false,
  eq-eqb _ _ c.if-head-ne3.false,
)
