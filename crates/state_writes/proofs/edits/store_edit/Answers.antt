-- `store_edit` meets its contract: the four numbers, one behind the other, are the edit's bytes.
use native.Mathlib.Omega.{arith}
use Rattle.state_bytes.specs.Stored.{edit_fields, stored_edit}
use Rattle.state_bytes.proofs.Fields.{laid-first, laid_more}
use Rattle.state_bytes.proofs.Readers.{edit-widths}
use Rattle.state_writes.proofs.Back.{edit-back}
use Rattle.state_writes.proofs.edits.store_edit.Goals as goal

pub returns : goal.returns
unfolding stored_edit
returns c = let a = c.args in
    let e = a.edit in
    let number = c.kind_number.ensures in
    let displacement = c.displacement.ensures in
    let one = laid-first (edit_fields e) a.b.now a.at (edit-widths e) (omega arith) (omega arith) c.store4.ensures.b_after in
    let two = laid_more one (omega arith) c.store4-2.ensures.b_after in
    let three = laid_more two (omega arith) (rw number at c.store4-3.ensures.b_after) in
    let four = laid_more three (omega arith) (rw displacement at c.store8.ensures.b_after) in record {
      b_after = four.bytes;
      edit_value = edit-back
          e
          (record {
            offset = c.store4.ensures.x_bound;
            length = c.store4-2.ensures.x_bound;
            kind = rw number at c.store4-3.ensures.x_bound;
            displacement = rw displacement at c.store8.ensures.x_bound;
          });
    }
