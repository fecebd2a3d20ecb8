-- `words::address::subtract` meets its contract: only the definition's remainder, with b added, wraps to a.
use Rattle.std.proofs.Common.{arith}
use Rattle.words.specs.Address.{wrapping_difference}
use Rattle.words.proofs.address.subtract.Goals as goal

pub returns : goal.returns
unfolding wrapping_difference
returns c = omega arith
