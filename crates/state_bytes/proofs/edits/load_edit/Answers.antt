-- `edits::load_edit` meets its contract.
use Rattle.state_bytes.specs.Stored.{edit_at}
use Rattle.state_bytes.proofs.edits.load_edit.Goals as goal

pub returns : goal.returns
unfolding edit_at
returns c = rw (
  c.kind_from-kind.ensures,
  c.load8.ensures,
  c.load4-number.ensures,
  c.load4-length.ensures,
  c.load4-offset.ensures,
)
