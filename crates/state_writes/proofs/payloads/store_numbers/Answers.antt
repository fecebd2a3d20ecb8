-- `store_numbers` meets its contract: the six numbers, one behind the other.
use Prim.Native.Nat.{◌+◌}
use native.Mathlib.Omega.{arith}
use Rattle.records.specs.Limits.{name_max}
use Rattle.state_bytes.specs.Stored.{number_fields}
use Rattle.state_bytes.proofs.Fields.{laid-first, laid_more}
use Rattle.state_bytes.proofs.Readers.{number-widths}
use Rattle.state_writes.proofs.payloads.store_numbers.Goals as goal

pub returns : goal.returns
returns c = let a = c.args in
    let p = a.payload in
    let at = a.at + name_max in
    let one = laid-first (number_fields p) a.b.now at (number-widths p) (omega arith) (omega arith) c.store4.ensures.b_after in
    let two = laid_more one (omega arith) c.store4-2.ensures.b_after in
    let three = laid_more two (omega arith) c.store4-3.ensures.b_after in
    let four = laid_more three (omega arith) c.store4-4.ensures.b_after in
    let five = laid_more four (omega arith) c.store4-5.ensures.b_after in
    let six = laid_more five (omega arith) c.store4-6.ensures.b_after in record {
      b_after = six.bytes;
      name_length_bound = (
        c.store4.ensures.x_bound,
        c.store4-2.ensures.x_bound,
        c.store4-3.ensures.x_bound,
        c.store4-4.ensures.x_bound,
        c.store4-5.ensures.x_bound,
        c.store4-6.ensures.x_bound,
      );
    }
