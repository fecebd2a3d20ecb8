-- `pieces::byte` meets its contract.
use Rattle.answers.proofs.Written.{one}
use Rattle.answers.proofs.pieces.byte.Goals as goal

pub returns : goal.returns
returns c = one c.args.out.now c.args.at c.args.b c.requires
