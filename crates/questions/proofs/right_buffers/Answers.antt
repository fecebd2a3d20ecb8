-- `right_buffers` meets its contract: the size is tested first.
use borrow.Author.Tests.{eq-eqb, ne_eqb}
use Rattle.questions.proofs.right_buffers.Goals as goal

pub returns-then-out-size : goal.returns-then-out-size
returns-then-out-size c = rw (ne_eqb _ _ c.if-out-size.true)

pub returns : goal.returns
returns c = rw (eq-eqb _ _ c.if-out-size.false) c.is_state.ensures
