-- `command::read` meets its contract: the first word that is the line's decides.
use mathlib.Core.Path.{sym, ◌∙◌}
use Rattle.script.specs.Command.{command_of}
use Rattle.script.proofs.command.read.Goals as goal

pub returns-then-is_command : goal.returns-then-is_command
unfolding command_of
returns-then-is_command c = rw (sym c.is_command.ensures ∙ c.if-is_command.true) c.start_in.ensures

pub returns-then-is_command-2 : goal.returns-then-is_command-2
unfolding command_of
returns-then-is_command-2 c = rw (sym c.is_command.ensures ∙ c.if-is_command.false, sym c.is_command-2.ensures ∙ c.if-is_command-2.true) c.upload_in.ensures

pub returns-then-is_command-3 : goal.returns-then-is_command-3
unfolding command_of
returns-then-is_command-3 c = rw (sym c.is_command.ensures ∙ c.if-is_command.false, sym c.is_command-2.ensures ∙ c.if-is_command-2.false, sym c.is_command-3.ensures ∙ c.if-is_command-3.true) c.get_in.ensures

pub returns-then-is_command-4 : goal.returns-then-is_command-4
unfolding command_of
returns-then-is_command-4 c = rw (sym c.is_command.ensures ∙ c.if-is_command.false, sym c.is_command-2.ensures ∙ c.if-is_command-2.false, sym c.is_command-3.ensures ∙ c.if-is_command-3.false, sym c.is_command-4.ensures ∙ c.if-is_command-4.true)

pub returns-then-is_command-5 : goal.returns-then-is_command-5
unfolding command_of
returns-then-is_command-5 c = rw (sym c.is_command.ensures ∙ c.if-is_command.false, sym c.is_command-2.ensures ∙ c.if-is_command-2.false, sym c.is_command-3.ensures ∙ c.if-is_command-3.false, sym c.is_command-4.ensures ∙ c.if-is_command-4.false, sym c.is_command-5.ensures ∙ c.if-is_command-5.true) c.act_in.ensures

pub returns-then-is_command-6 : goal.returns-then-is_command-6
unfolding command_of
returns-then-is_command-6 c = rw (sym c.is_command.ensures ∙ c.if-is_command.false, sym c.is_command-2.ensures ∙ c.if-is_command-2.false, sym c.is_command-3.ensures ∙ c.if-is_command-3.false, sym c.is_command-4.ensures ∙ c.if-is_command-4.false, sym c.is_command-5.ensures ∙ c.if-is_command-5.false, sym c.is_command-6.ensures ∙ c.if-is_command-6.true) c.report_in.ensures

pub returns-then-is_command-7 : goal.returns-then-is_command-7
unfolding command_of
returns-then-is_command-7 c = rw (sym c.is_command.ensures ∙ c.if-is_command.false, sym c.is_command-2.ensures ∙ c.if-is_command-2.false, sym c.is_command-3.ensures ∙ c.if-is_command-3.false, sym c.is_command-4.ensures ∙ c.if-is_command-4.false, sym c.is_command-5.ensures ∙ c.if-is_command-5.false, sym c.is_command-6.ensures ∙ c.if-is_command-6.false, sym c.is_command-7.ensures ∙ c.if-is_command-7.true)

pub returns-then-is_command-8 : goal.returns-then-is_command-8
unfolding command_of
returns-then-is_command-8 c = rw (sym c.is_command.ensures ∙ c.if-is_command.false, sym c.is_command-2.ensures ∙ c.if-is_command-2.false, sym c.is_command-3.ensures ∙ c.if-is_command-3.false, sym c.is_command-4.ensures ∙ c.if-is_command-4.false, sym c.is_command-5.ensures ∙ c.if-is_command-5.false, sym c.is_command-6.ensures ∙ c.if-is_command-6.false, sym c.is_command-7.ensures ∙ c.if-is_command-7.false, sym c.is_command-8.ensures ∙ c.if-is_command-8.true)

pub returns : goal.returns
unfolding command_of
returns c = rw (sym c.is_command.ensures ∙ c.if-is_command.false, sym c.is_command-2.ensures ∙ c.if-is_command-2.false, sym c.is_command-3.ensures ∙ c.if-is_command-3.false, sym c.is_command-4.ensures ∙ c.if-is_command-4.false, sym c.is_command-5.ensures ∙ c.if-is_command-5.false, sym c.is_command-6.ensures ∙ c.if-is_command-6.false, sym c.is_command-7.ensures ∙ c.if-is_command-7.false, sym c.is_command-8.ensures ∙ c.if-is_command-8.false)
