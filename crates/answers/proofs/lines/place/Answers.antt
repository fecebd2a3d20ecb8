-- `lines::place` meets its contract: in each arm the place is the one matched.
use mathlib.Core.Path.{◌∙◌}
use Rattle.answers.specs.Answers.{place_numbers}
use Rattle.answers.proofs.lines.place.Goals as goal

pub returns-in-Nowhere : goal.returns-in-Nowhere
unfolding place_numbers
returns-in-Nowhere c = c.decimal.ensures ∙ rw c.in-Nowhere.is

pub returns-in-Section : goal.returns-in-Section
unfolding place_numbers
returns-in-Section c = c.decimal-in-Section.ensures ∙ rw c.in-Section.is

pub returns-in-Entry : goal.returns-in-Entry
unfolding place_numbers
returns-in-Entry c = c.two_numbers.ensures ∙ rw c.in-Entry.is

pub returns-in-Record : goal.returns-in-Record
unfolding place_numbers
returns-in-Record c = c.decimal-in-Record.ensures ∙ rw c.in-Record.is
