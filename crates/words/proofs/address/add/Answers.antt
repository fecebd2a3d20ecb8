-- `words::address::add` meets its contract: what the wrapping sum ensures is the definition.
use Rattle.std.proofs.Common.{arith}
use Rattle.words.specs.Address.{wrapping_sum}
use Rattle.words.proofs.address.add.Goals as goal

pub returns : goal.returns
unfolding wrapping_sum
returns c = omega arith
