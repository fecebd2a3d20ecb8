-- `get::answer` meets its contract: status and result of the payload.
use Rattle.queries.proofs.get.answer.Goals as goal

pub returns : goal.returns
returns c = rw c.result_word.ensures
