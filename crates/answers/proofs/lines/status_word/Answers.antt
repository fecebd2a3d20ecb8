-- `lines::status_word` meets its contract.
use mathlib.Core.Path.{◌∙◌}
use borrow.Author.Tests.{eq-eqb, ne_eqb}
use Rattle.answers.specs.Answers.{status_word}
use Rattle.answers.proofs.lines.status_word.Goals as goal

pub returns-then-status-eq2 : goal.returns-then-status-eq2
unfolding status_word
returns-then-status-eq2 c = c.text.ensures ∙ rw (eq-eqb _ 2 c.if-status-eq2.true)

pub returns : goal.returns
unfolding status_word
returns c = c.text-2.ensures ∙ rw (ne_eqb _ 2 c.if-status-eq2.false)
