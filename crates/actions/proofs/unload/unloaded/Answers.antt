-- `unload::unloaded` meets its contract.
use Rattle.actions.proofs.unload.unloaded.Goals as goal

pub returns : goal.returns
returns c = rw (c.wrapping_add_u32.ensures.value, c.without-rest.ensures)
