-- `upload::prepare_in` meets its contract: the slot's part of the arena is lent, and what was left in it is put back.
use Rattle.memory.proofs.Laws.{valid-config}
use Rattle.upload.proofs.SlotLaws.{prepared-in}
use Rattle.upload.proofs.upload.prepare_in.Goals as goal

pub returns : goal.returns
returns c = prepared-in _ _ _ _ c.requires.2 c.requires.1 (valid-config _ c.requires.0).text_max c.host.ensures
    c.prepare.ensures.equal
