-- `lines::off_line` meets its contract: only a start-up is more than a bad line.
use Rattle.std.proofs.Common.{Some, ap, ◌∙◌}
use Rattle.interpreter.specs.Lines.{id_in, off_line}
use Rattle.interpreter.specs.Session.{off}
use Rattle.interpreter.specs.Standing.{unit_in, mode_in}
use Rattle.interpreter.proofs.Answering.{gives, off-bad, start_gives}
use Rattle.interpreter.proofs.Readable.{read_as}
use Rattle.interpreter.proofs.lines.off_line.Goals as goal

pub start-requires-clause-within : goal.start-requires-clause-within
start-requires-clause-within c = let read = read_as c.args.line.now c.requires.command_value.0 (c.in-Some.is ∙ ap Some c.in-Start.is) in
    (c.requires.command_value.2, read.1.1, read.1.0)

pub start-requires-clause-line_len_bound : goal.start-requires-clause-line_len_bound
start-requires-clause-line_len_bound c = let read = read_as c.args.line.now c.requires.command_value.0 (c.in-Some.is ∙ ap Some c.in-Start.is) in
    (read.0, c.requires.room)

pub returns : goal.returns
unfolding off_line
returns c = let a = c.args in
    let m = a.memory.now in
    let command = ap (off_line a.console.lines a.line.now) (c.in-Some.is ∙ ap Some c.in-Start.is) in
    rw command
    (start_gives a.console a.state c.in-Start.host (id_in a.line.now) m _ _ _ _ _ off c.start.ensures
    (λ p. ap (λ mode. mode_in mode (unit_in a.console a.state m) p) c.requires.command_value.1))

pub returns-in_default : goal.returns-in_default
unfolding off_line
returns-in_default c = let a = c.args in
    let m = a.memory.now in
    let command = ap (off_line a.console.lines a.line.now) c.in_default.is in
    gives a.console c.requires.command_value.2 _ _ _ _ a.state m _ c.bad.ensures _
    (command ∙ rw c.requires.command_value.1)

pub returns-in_default-command : goal.returns-in_default-command
returns-in_default-command c = let a = c.args in
    let m = a.memory.now in
    let command = ap (off_line a.console.lines a.line.now) c.in-Some.is in
    gives a.console c.requires.command_value.2 _ _ _ _ a.state m _ c.bad-in_default-command.ensures _
    (command ∙ off-bad a.console.lines a.line.now c.in-Some.command c.in_default-command.not-Start ∙ rw c.requires.command_value.1)
