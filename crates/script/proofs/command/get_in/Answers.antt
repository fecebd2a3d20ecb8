-- `command::get_in` meets its contract.
use Rattle.script.specs.Command.{get_in}
use Rattle.script.proofs.command.get_in.Goals as goal

pub returns : goal.returns
unfolding get_in
returns c = rw (c.then_some.ensures, c.is_plain_field.ensures)
