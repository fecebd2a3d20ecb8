-- `hex::is_hex_field` meets its contract: the field's bytes are tested.
use mathlib.Core.Path.{ap, ◌∙◌}
use Rattle.words.specs.Splice.{part}
use Rattle.script.specs.Hex.{is_hex}
use Rattle.script.proofs.hex.is_hex_field.Goals as goal

pub returns : goal.returns
unfolding part
returns c = c.is_hex.ensures ∙ ap is_hex c.field-span.ensures.2
