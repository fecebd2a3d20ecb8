-- `rises` meets its contract: it says whether the order that a comparison answers is less.
use Rattle.words.specs.Order.{less}
use Rattle.words.proofs.Order.{compared-order}
use Rattle.symbols.proofs.rises.Goals as goal

pub returns : goal.returns
unfolding less
returns c = rw (← compared-order _ _ c.compare-comparison.ensures) c.smaller.ensures
