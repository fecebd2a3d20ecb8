-- `decimal::read_field` meets its contract: the field's bytes are read.
use mathlib.Core.Path.{ap, ◌∙◌}
use Rattle.words.specs.Splice.{part}
use Rattle.script.specs.Decimal.{number_of}
use Rattle.script.proofs.decimal.read_field.Goals as goal

pub returns : goal.returns
unfolding part
returns c = let a = c.args in
    c.read.ensures ∙ ap (number_of a.most) c.field-span.ensures.2
