-- `edit_of` meets its contract.
use Rattle.std.proofs.lemmas.Result.{err_from_is_err_and}
use Rattle.functions.specs.Edits.{edit_of}
use Rattle.functions.proofs.edits.edit_of.Goals as goal

pub returns-in_err-old : goal.returns-in_err-old
unfolding edit_of
returns-in_err-old c =
    let p = err_from_is_err_and c.from_residual.result c.from_residual.ensures.1 in
    rw (p.1, p.2, ← c.read_record-f.ensures, ← c.old_address.ensures, c.in_err-old.was)

pub returns : goal.returns
unfolding edit_of
returns c = rw (← c.read_record-f.ensures, ← c.old_address.ensures, c.in_ok-old.was, c.edit_from.ensures)
