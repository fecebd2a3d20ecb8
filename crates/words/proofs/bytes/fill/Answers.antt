-- `bytes::fill` meets its contract: a write to a part is a splice.
use Rattle.std.proofs.Common.{arith, rules}
use lib.ListN.{length-replicate}
use Rattle.words.proofs.Splice.{splice-written}
use Rattle.words.proofs.bytes.fill.Goals as goal

pub returns : goal.returns
returns c = splice-written _ _ _ _ _ (search rules) (omega (arith, length-replicate c.args.n c.args.b))
