-- `found_at` meets its contract: the address is read where the names are the same.
use Rattle.symbols.proofs.found_at.Goals as goal

pub returns-in-Equal : goal.returns-in-Equal
returns-in-Equal c = rw (c.in-Equal.is, ← c.read.ensures.value)
