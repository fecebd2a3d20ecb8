-- `pieces::text` meets its contract: the bytes are copied.
use Rattle.answers.proofs.pieces.text.Goals as goal

pub returns : goal.returns
returns c = rw c.copy.ensures
