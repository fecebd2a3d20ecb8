-- `edit::take_off` meets its contract: the saved bytes over the text, and zeros over the record.
use mathlib.Core.Path.{◌∙◌}
use Rattle.work.specs.Work.{taken_off}
use Rattle.work.proofs.EditLaws.{lent_same, lent-part}
use Rattle.work.proofs.edit.take_off.Goals as goal

pub returns : goal.returns
unfolding taken_off
returns c = lent_same
    (c.copy.ensures ∙ rw (lent-part _ c.undo_at-record.result _, c.undo_at-record.ensures))
    (c.fill.ensures ∙ rw c.undo_at-record.ensures)
