-- `store_payload` meets its contract: name, numbers, dependency and edits, one behind the other, are the payload's bytes.
use native.Mathlib.Omega.{arith}
use Rattle.state_bytes.specs.Stored.{payload_fields, payload_bytes}
use Rattle.state_bytes.proofs.Fields.{laid-first, laid_more, laid-several}
use Rattle.state_bytes.proofs.Readers.{payload-widths, length-payload}
use Rattle.state_writes.proofs.Back.{PayloadFits, payload-back}
use Rattle.state_writes.proofs.payloads.store_payload.Goals as goal

pub returns : goal.returns
unfolding payload_bytes
returns c = let a = c.args in
    let p = a.payload in
    let fit = c.store_numbers.ensures.name_length_bound in
    let fits : PayloadFits p = record {
      whole = record {
        name = c.store_name.ensures.name_len;
        dependency = c.store_id.ensures.id_len;
        edits = c.store_edits.ensures.edits_len.0;
      };
      name_length = fit.0;
      slot = fit.1;
      status = fit.2;
      result = fit.3;
      id_length = fit.4;
      dependency_length = fit.5;
      edit_count = c.store4.ensures.x_bound;
      edits_back = c.store_edits.ensures.edits_len.1;
    } in
    let widths = payload-widths p fits.whole in
    let one = laid-first (payload_fields p) a.b.now a.at widths (omega (arith, c.requires)) (omega arith) c.store_name.ensures.b_after in
    let seven = laid-several one 6 c.store_numbers.ensures.b_after in
    let eight = laid_more seven (omega arith) c.store_id.ensures.b_after in
    let nine = laid_more eight (omega arith) c.store4.ensures.b_after in
    let ten = laid_more nine (omega arith) c.store_edits.ensures.b_after in
    record { b_after = ten.bytes; payload_len = (length-payload p fits.whole, payload-back p fits) }
