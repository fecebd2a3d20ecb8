-- `lines::line` meets its contract: the line is counted, and read as the mode says.
use Rattle.interpreter.proofs.Answering.{off-gives, ready-gives, payload-gives, dropped-gives}
use Rattle.interpreter.proofs.lines.line.Goals as goal

pub returns-in-Off : goal.returns-in-Off
returns-in-Off c = let a = c.args in
    off-gives _ _ c.counted-next.ensures a.state a.memory.now a.gathered.now a.line.now c.command_in.result c.command_in.ensures c.in-Off.is c.off_line.ensures

pub returns-in-Ready : goal.returns-in-Ready
returns-in-Ready c = let a = c.args in
    ready-gives _ _ c.counted-next.ensures a.state a.memory.now a.gathered.now a.line.now c.command_in-in-Ready.result c.command_in-in-Ready.ensures c.in-Ready.is c.ready_line.ensures

pub returns-in-Payload : goal.returns-in-Payload
returns-in-Payload c = let a = c.args in
    payload-gives _ _ c.counted-next.ensures a.state a.memory.now a.gathered.now a.line.now c.in-Payload.is c.payload_line.ensures

pub returns-in-Dropped : goal.returns-in-Dropped
returns-in-Dropped c = let a = c.args in
    dropped-gives _ _ c.counted-next.ensures a.state a.memory.now a.gathered.now a.line.now c.in-Dropped.is (c.dropped_line.ensures _ _ _)
