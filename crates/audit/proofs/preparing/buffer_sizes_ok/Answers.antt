-- `preparing::buffer_sizes_ok` meets its contract.
use mathlib.Core.Bool.{and-false}
use borrow.Author.Tests.{eq-eqb, ne_eqb}
use Rattle.audit.specs.Preparing.{buffer_sizes_ok}
use Rattle.audit.proofs.preparing.buffer_sizes_ok.Goals as goal

pub returns-then-image-ne-PLACED_MAX : goal.returns-then-image-ne-PLACED_MAX
unfolding buffer_sizes_ok
returns-then-image-ne-PLACED_MAX c = simp (ne_eqb _ _ c.if-image-ne-PLACED_MAX.true)

pub returns-then-edits : goal.returns-then-edits
unfolding buffer_sizes_ok
returns-then-edits c = simp (ne_eqb _ _ c.if-edits.true, and-false)

pub returns : goal.returns
unfolding buffer_sizes_ok
returns c = simp (eq-eqb _ _ c.if-image-ne-PLACED_MAX.false, eq-eqb _ _ c.if-edits.false)
