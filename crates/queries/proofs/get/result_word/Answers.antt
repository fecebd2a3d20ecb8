-- `get::result_word` meets its contract: 0, or what is left of 2^32.
use mathlib.Core.Path.{sym}
use native.Mathlib.Omega.{arith}
use Rattle.queries.proofs.GetLaws.{no_result, some_result}
use Rattle.queries.proofs.get.result_word.Goals as goal

pub returns-then-magnitude-eq0 : goal.returns-then-magnitude-eq0
returns-then-magnitude-eq0 c = rw c.if-magnitude-eq0.true (sym no_result)

pub returns : goal.returns
returns c = rw (some_result c.args.magnitude (omega arith) (omega arith)) (omega arith)
