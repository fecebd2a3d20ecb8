-- `read::accept` meets its contract.
use Rattle.payload.proofs.read.accept.Goals as goal

pub returns : goal.returns
returns c = simp (
  c.index_of.ensures.0,
  c.index_of-2.ensures.0,
  c.index_of-3.ensures.0,
  c.index_of-4.ensures.0,
  c.id_of.ensures,
  c.id_of-2.ensures,
)
