-- `command::act_in` meets its contract: two numbers and a name, or it is unreadable.
use mathlib.Core.Path.{sym, ◌∙◌}
use native.Mathlib.Omega.{arith}
use Rattle.words.proofs.Tests.{refuted, held}
use Rattle.script.specs.Command.{number_most, act_in}
use Rattle.script.proofs.Commands.{number-most}
use Rattle.script.proofs.command.act_in.Goals as goal

pub returns-in_err-action : goal.returns-in_err-action
unfolding act_in
returns-in_err-action c = rw (c.from_residual.ensures, sym c.read_field.ensures ∙ c.in_err-action.was)

pub returns-in_err-time : goal.returns-in_err-time
unfolding act_in
returns-in_err-time c = rw (
  c.from_residual-in_err-time.ensures,
  sym c.read_field.ensures ∙ c.in_ok-action.was,
  sym c.read_field-2.ensures ∙ c.in_err-time.was,
)

pub returns-then-not-is_plain_field : goal.returns-then-not-is_plain_field
unfolding act_in
returns-then-not-is_plain_field c = rw (
  sym c.read_field.ensures ∙ c.in_ok-action.was,
  sym c.read_field-2.ensures ∙ c.in_ok-time.was,
  refuted c.is_plain_field.ensures c.if-not-is_plain_field.true,
)

pub overflow_cast-result : goal.overflow_cast-result
overflow_cast-result c = omega (arith, number-most number_most _ _ (sym c.read_field.ensures ∙ c.in_ok-action.was))

pub overflow_cast-result-2 : goal.overflow_cast-result-2
overflow_cast-result-2 c = omega (arith, number-most number_most _ _ (sym c.read_field-2.ensures ∙ c.in_ok-time.was))

pub returns : goal.returns
unfolding act_in
returns c = rw (
  sym c.read_field.ensures ∙ c.in_ok-action.was,
  sym c.read_field-2.ensures ∙ c.in_ok-time.was,
  held c.is_plain_field.ensures c.if-not-is_plain_field.false,
)
