-- `bytes::copy` meets its contract: the first `i` bytes are written.
use Rattle.std.proofs.Common.{refl, arith}
use Rattle.words.proofs.Written.{written_none, written-more, written_all}
use Rattle.words.proofs.bytes.copy.Goals as goal

pub loop-i-init : goal.loop-i-init
loop-i-init c = written_none _ _ _

pub loop-i-preserved : goal.loop-i-preserved
loop-i-preserved c = written-more _ _ _ _ c.loop-i.invariant _ (omega arith) (omega arith) refl

pub returns : goal.returns
returns c = written_all _ _ _ _ c.loop-i.invariant (omega arith)
