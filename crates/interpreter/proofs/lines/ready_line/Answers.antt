-- `lines::ready_line` meets its contract, command by command.
use Rattle.std.proofs.Common.{Some, ap, ◌∙◌}
use Rattle.interpreter.specs.Lines.{id_in, ready_line, get_line, list_line}
use Rattle.interpreter.specs.Session.{ready}
use Rattle.interpreter.specs.Standing.{unit_in, mode_in}
use Rattle.interpreter.proofs.Answering.{gives-ready, act-line, called-line, work-line, start_gives, open_gives}
use Rattle.interpreter.proofs.Readable.{read_as}
use Rattle.interpreter.proofs.lines.ready_line.Goals as goal

pub start-requires-clause-within : goal.start-requires-clause-within
start-requires-clause-within c = let read = read_as c.args.line.now c.requires.command_value.0 (c.in-Some.is ∙ ap Some c.in-Start.is) in
    (c.requires.command_value.2, read.1.1, read.1.0)

pub start-requires-clause-line_len_bound : goal.start-requires-clause-line_len_bound
start-requires-clause-line_len_bound c = let read = read_as c.args.line.now c.requires.command_value.0 (c.in-Some.is ∙ ap Some c.in-Start.is) in
    (read.0, c.requires.room)

pub open-requires : goal.open-requires
open-requires c = let read = read_as c.args.line.now c.requires.command_value.0 (c.in-Some.is ∙ ap Some c.in-Upload.is) in
    (c.requires.command_value.2, read.0, read.1)

pub get-requires : goal.get-requires
get-requires c = let read = read_as c.args.line.now c.requires.command_value.0 (c.in-Some.is ∙ ap Some c.in-Get.is) in
    (read, c.requires.room)

pub act-called-requires : goal.act-called-requires
act-called-requires c = let read = read_as c.args.line.now c.requires.command_value.0 (c.in-Some.is ∙ ap Some c.in-Act.is) in
    (read, c.requires.command_value.2)

pub returns-in-Start : goal.returns-in-Start
unfolding ready_line
returns-in-Start c = let a = c.args in
    let m = a.memory.now in
    let u = unit_in a.console a.state m in
    let command = ap (ready_line a.console.lines u a.line.now) (c.in-Some.is ∙ ap Some c.in-Start.is) in
    rw command
    (start_gives a.console a.state c.in-Start.host (id_in a.line.now) m _ _ _ _ _ (ready u) c.start.ensures
    (λ p. ap (λ mode. mode_in mode u p) c.requires.command_value.1))

pub returns-in-Upload : goal.returns-in-Upload
unfolding ready_line
returns-in-Upload c = let a = c.args in
    let m = a.memory.now in
    let command = ap (ready_line a.console.lines (unit_in a.console a.state m) a.line.now) (c.in-Some.is ∙ ap Some c.in-Upload.is) in
    let opened = c.«open» in
    rw command
    (open_gives a.console a.state m a.line.now opened.new.gathered _ opened.result opened.ensures.value opened.ensures.holds.0
    opened.ensures.holds.1 opened.ensures.within)

pub returns-in-Get : goal.returns-in-Get
unfolding ready_line get_line
returns-in-Get c = let a = c.args in
    let m = a.memory.now in
    let command = ap (ready_line a.console.lines (unit_in a.console a.state m) a.line.now) (c.in-Some.is ∙ ap Some c.in-Get.is) in
    gives-ready a.console c.requires.command_value.2 _ _ _ _ a.state m _ c.get.ensures c.requires.command_value.1 _ command

pub returns-in-List : goal.returns-in-List
unfolding ready_line list_line
returns-in-List c = let a = c.args in
    let m = a.memory.now in
    let command = ap (ready_line a.console.lines (unit_in a.console a.state m) a.line.now) (c.in-Some.is ∙ ap Some c.in-List.is) in
    gives-ready a.console c.requires.command_value.2 _ _ _ _ a.state m _ c.list.ensures c.requires.command_value.1 _ command

pub returns-in-Act : goal.returns-in-Act
unfolding ready_line
returns-in-Act c = let a = c.args in
    let m = a.memory.now in
    let command = ap (ready_line a.console.lines (unit_in a.console a.state m) a.line.now) (c.in-Some.is ∙ ap Some c.in-Act.is) in
    let act = c.act-called in
    gives-ready a.console c.requires.command_value.2 _ _ _ _ act.result.state act.new.memory _ c.told.ensures c.requires.command_value.1 _
    (command ∙ act-line a.console a.state m _ _ act.result act.new.memory act.ensures.answer act.ensures.kept)

pub returns-in-Report : goal.returns-in-Report
unfolding ready_line
returns-in-Report c = let a = c.args in
    let m = a.memory.now in
    let command = ap (ready_line a.console.lines (unit_in a.console a.state m) a.line.now) (c.in-Some.is ∙ ap Some c.in-Report.is) in
    gives-ready a.console c.requires.command_value.2 _ _ _ _ c.report.result.state m _ c.told-in-Report.ensures
    c.requires.command_value.1 _ (command ∙ called-line a.console a.state m c.report.result _ c.report.ensures)

pub returns-in-Tick : goal.returns-in-Tick
unfolding ready_line
returns-in-Tick c = let a = c.args in
    let m = a.memory.now in
    let command = ap (ready_line a.console.lines (unit_in a.console a.state m) a.line.now) (c.in-Some.is ∙ ap Some c.in-Tick.is) in
    gives-ready a.console c.requires.command_value.2 _ _ _ _ c.tick.result.state m _ c.told-in-Tick.ensures
    c.requires.command_value.1 _ (command ∙ called-line a.console a.state m c.tick.result _ c.tick.ensures)

pub returns-in-Work : goal.returns-in-Work
unfolding ready_line
returns-in-Work c = let a = c.args in
    let m = a.memory.now in
    let command = ap (ready_line a.console.lines (unit_in a.console a.state m) a.line.now) (c.in-Some.is ∙ ap Some c.in-Work.is) in
    let work = c.work-called in
    gives-ready a.console c.requires.command_value.2 _ _ _ _ work.result.state _ _ c.told-in-Work.ensures
    c.requires.command_value.1 _ (command ∙ work-line a.console a.state m work.result _ _ work.ensures)

pub returns-in_default : goal.returns-in_default
unfolding ready_line
returns-in_default c = let a = c.args in
    let m = a.memory.now in
    let command = ap (ready_line a.console.lines (unit_in a.console a.state m) a.line.now) c.in_default.is in
    gives-ready a.console c.requires.command_value.2 _ _ _ _ a.state m _ c.bad.ensures c.requires.command_value.1 _ command
