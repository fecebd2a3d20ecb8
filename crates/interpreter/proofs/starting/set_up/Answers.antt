-- `starting::set_up` meets its contract: only the sizes of what is lent matter.
use Rattle.std.proofs.Common.{arith}
use Rattle.interpreter.proofs.Fresh.{lent-stores, sets-up}
use Rattle.interpreter.proofs.starting.set_up.Goals as goal

pub returns : goal.returns
returns c = let a = c.args in
    sets-up a.host a.memory.now a.id.now (omega arith) (lent-stores a.memory.now (omega arith) (omega arith) (omega arith))
    _ _ _ _ c.start.ensures
