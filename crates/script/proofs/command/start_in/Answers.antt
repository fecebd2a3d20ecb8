-- `command::start_in` meets its contract: four numbers and an id, or it is unreadable.
use mathlib.Core.Path.{sym, ◌∙◌}
use native.Mathlib.Omega.{arith}
use Rattle.words.proofs.Tests.{refuted, held}
use Rattle.script.specs.Command.{number_most, start_in}
use Rattle.script.proofs.Commands.{number-most}
use Rattle.script.proofs.command.start_in.Goals as goal

pub returns-in_err-base : goal.returns-in_err-base
unfolding start_in
returns-in_err-base c = rw (c.from_residual.ensures, sym c.read_field.ensures ∙ c.in_err-base.was)

pub returns-in_err-size : goal.returns-in_err-size
unfolding start_in
returns-in_err-size c = rw (
  c.from_residual-in_err-size.ensures,
  sym c.read_field.ensures ∙ c.in_ok-base.was,
  sym c.read_field-2.ensures ∙ c.in_err-size.was,
)

pub returns-in_err-arena : goal.returns-in_err-arena
unfolding start_in
returns-in_err-arena c = rw (
  c.from_residual-in_err-arena.ensures,
  sym c.read_field.ensures ∙ c.in_ok-base.was,
  sym c.read_field-2.ensures ∙ c.in_ok-size.was,
  sym c.read_field-3.ensures ∙ c.in_err-arena.was,
)

pub returns-in_err-cpus : goal.returns-in_err-cpus
unfolding start_in
returns-in_err-cpus c = rw (
  c.from_residual-in_err-cpus.ensures,
  sym c.read_field.ensures ∙ c.in_ok-base.was,
  sym c.read_field-2.ensures ∙ c.in_ok-size.was,
  sym c.read_field-3.ensures ∙ c.in_ok-arena.was,
  sym c.read_field-4.ensures ∙ c.in_err-cpus.was,
)

pub returns-then-not-is_hex_field : goal.returns-then-not-is_hex_field
unfolding start_in
returns-then-not-is_hex_field c = rw (
  sym c.read_field.ensures ∙ c.in_ok-base.was,
  sym c.read_field-2.ensures ∙ c.in_ok-size.was,
  sym c.read_field-3.ensures ∙ c.in_ok-arena.was,
  sym c.read_field-4.ensures ∙ c.in_ok-cpus.was,
  refuted c.is_hex_field.ensures c.if-not-is_hex_field.true,
)

pub overflow_cast-result : goal.overflow_cast-result
overflow_cast-result c = omega (arith, number-most number_most _ _ (sym c.read_field-4.ensures ∙ c.in_ok-cpus.was))

pub returns : goal.returns
unfolding start_in
returns c = rw (
  sym c.read_field.ensures ∙ c.in_ok-base.was,
  sym c.read_field-2.ensures ∙ c.in_ok-size.was,
  sym c.read_field-3.ensures ∙ c.in_ok-arena.was,
  sym c.read_field-4.ensures ∙ c.in_ok-cpus.was,
  held c.is_hex_field.ensures c.if-not-is_hex_field.false,
)
