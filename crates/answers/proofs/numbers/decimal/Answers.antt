-- `numbers::decimal` meets its contract.
use Rattle.script.specs.Decimal.{decimal}
use Rattle.answers.proofs.numbers.decimal.Goals as goal

pub returns : goal.returns
unfolding decimal
returns c = c.digits.ensures
