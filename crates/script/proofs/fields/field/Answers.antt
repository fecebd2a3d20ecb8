-- `fields::field` meets its contract: where the field begins, and where it ends.
use mathlib.Core.Path.{sym, ◌∙◌}
use Rattle.script.proofs.fields.field.Goals as goal

pub returns : goal.returns
returns c = let begin = c.begin-from.ensures in
    let end = c.end-to.ensures in
    (end.0, end.1, end.2 ∙ sym begin.1)
