-- `known_answers` meets its contract: the table holds of the definitions.
use Rattle.known.proofs.Known.{known-table}
use Rattle.known.proofs.known_answers.Goals as goal

pub returns : goal.returns
returns c = known-table
