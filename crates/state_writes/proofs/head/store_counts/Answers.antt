-- `store_counts` meets its contract: the three numbers, one behind the other, are the bytes of the counts and the version.
use native.Mathlib.Omega.{arith}
use Rattle.state_bytes.specs.Layout.{count_place}
use Rattle.state_bytes.specs.Stored.{count_fields, count_bytes}
use Rattle.state_bytes.proofs.Fields.{laid-first, laid_more}
use Rattle.state_bytes.proofs.Readers.{count-widths}
use Rattle.state_writes.proofs.head.store_counts.Goals as goal

pub returns : goal.returns
unfolding count_bytes
returns c = let a = c.args in
    let s = a.state in
    let one = laid-first (count_fields s) a.b.now count_place (count-widths s) (omega arith) (omega arith) c.store8.ensures.b_after in
    let two = laid_more one (omega arith) c.store8-2.ensures.b_after in
    let three = laid_more two (omega arith) c.store4.ensures.b_after in record { b_after = three.bytes; count_bound = (c.store8.ensures.x_bound, c.store8-2.ensures.x_bound, c.store4.ensures.x_bound) }
