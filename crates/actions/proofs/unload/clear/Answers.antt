-- `unload::clear` meets its contract: the slot's bytes, its undo records and its id are zeroed.
use Rattle.std.proofs.Common.{◌≡◌, ◌*◌, arith}
use Rattle.memory.specs.Memory.{undo_at, slot_undo_size}
use Rattle.actions.specs.Actions.{cleared}
use Rattle.actions.proofs.unload.clear.Goals as goal

pub returns : goal.returns
unfolding cleared
returns c = let slot = c.args.slot in
    let records : slot_undo_size * slot ≡ undo_at slot 0 = omega arith in
    rw (c.fill.ensures, c.fill-2.ensures, c.fill-3.ensures, records)
