-- `parts::payload` meets its contract.
use mathlib.Core.Path.{sym, ◌∙◌}
use Rattle.state_bytes.proofs.Laws.{payload-there}
use Rattle.state_bytes.proofs.parts.payload.Goals as goal

pub returns : goal.returns
returns c = c.load_payload.ensures ∙ sym (payload-there c.args.b.now c.args.i c.requires.1)
