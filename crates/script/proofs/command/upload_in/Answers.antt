-- `command::upload_in` meets its contract.
use Rattle.words.proofs.Tests.{refuted, held}
use Rattle.script.specs.Command.{upload_in}
use Rattle.script.proofs.command.upload_in.Goals as goal
use Rattle.script.proofs.command.upload_in.Goals.{then-is_plain_field, else-is_plain_field}

pub returns : goal.returns
unfolding upload_in
returns c =
    elim c.if-is_plain_field.branch [
      | then-is_plain_field w ↦ rw (c.then_some.ensures, w.then_some-is, held c.is_plain_field.ensures w.if-is_plain_field.true, w.is_hex_field.ensures)
      | else-is_plain_field w ↦ rw (
        c.then_some.ensures,
        w.then_some-is,
        w.if-is_plain_field.false,
        refuted c.is_plain_field.ensures w.if-is_plain_field.false,
      )
    ]
