-- `uploading::is_end` meets its contract.
use Rattle.interpreter.specs.Lines.{is_end}
use Rattle.interpreter.proofs.uploading.is_end.Goals as goal

pub returns : goal.returns
unfolding is_end
returns c = c.same.ensures
