-- `store_job` meets its contract: the four numbers and the bytes of the CPUs, one behind the other, are the job's bytes.
use native.Mathlib.Omega.{arith}
use Rattle.state_bytes.specs.Layout.{job_place}
use Rattle.state_bytes.specs.Stored.{job_fields, job_bytes}
use Rattle.state_bytes.proofs.Fields.{laid-first, laid_more}
use Rattle.state_bytes.proofs.Readers.{job-widths}
use Rattle.state_writes.proofs.Back.{job-back}
use Rattle.state_writes.proofs.head.store_job.Goals as goal

pub returns : goal.returns
unfolding job_bytes
returns c = let a = c.args in
    let j = a.job in
    let held = c.store_held.ensures.held_len in
    let one = laid-first (job_fields j) a.b.now job_place (job-widths j held) (omega arith) (omega arith) c.store4.ensures.b_after in
    let two = laid_more one (omega arith) c.store4-2.ensures.b_after in
    let three = laid_more two (omega arith) c.store4-3.ensures.b_after in
    let four = laid_more three (omega arith) c.store4-4.ensures.b_after in
    let five = laid_more four (omega arith) c.store_held.ensures.b_after in
    let back = job-back j (
    record {
      action = c.store4.ensures.x_bound;
      slot = c.store4-2.ensures.x_bound;
      time = c.store4-3.ensures.x_bound;
      steps = c.store4-4.ensures.x_bound;
      held = held;
    }
    ) in
    record { b_after = five.bytes; held_len = (held, back) }
