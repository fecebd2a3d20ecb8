-- `command::report_in` meets its contract.
use mathlib.Core.Path.{sym, ◌∙◌}
use native.Mathlib.Omega.{arith}
use Rattle.script.specs.Command.{number_most, report_in}
use Rattle.script.proofs.Commands.{number-most}
use Rattle.script.proofs.command.report_in.Goals as goal

pub returns-in_err-cpu : goal.returns-in_err-cpu
unfolding report_in
returns-in_err-cpu c = rw (c.from_residual.ensures, sym c.read_field.ensures ∙ c.in_err-cpu.was)

pub overflow_cast-result : goal.overflow_cast-result
overflow_cast-result c = omega (arith, number-most number_most _ _ (sym c.read_field.ensures ∙ c.in_ok-cpu.was))

pub returns : goal.returns
unfolding report_in
returns c = rw (sym c.read_field.ensures ∙ c.in_ok-cpu.was)
