-- `parts::slot` meets its contract.
use mathlib.Core.Path.{sym, ap, ◌∙◌}
use Rattle.records.specs.declared.payload.Payload.{Payload}
use Rattle.state_bytes.specs.Stored.{payload_at}
use Rattle.state_bytes.proofs.Laws.{payload-there}
use Rattle.state_bytes.proofs.parts.slot.Goals as goal

pub returns : goal.returns
unfolding payload_at
returns c = c.load4.ensures ∙ ap (λ (p : Payload). p.slot) (sym (payload-there c.args.b.now c.args.i c.requires.1))
