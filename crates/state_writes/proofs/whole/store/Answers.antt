-- `store` meets its contract: the five parts, one behind the other, are all of the buffer.
use mathlib.Core.Path.{sym, ◌∙◌}
use native.Mathlib.Omega.{arith}
use Rattle.words.proofs.Splice.{splice-whole}
use Rattle.state.proofs.Whole.{whole}
use Rattle.state_bytes.specs.Stored.{state_fields, bytes_of}
use Rattle.state_bytes.proofs.Fields.{laid-first, laid_more}
use Rattle.state_writes.proofs.Stored.{state-widths, length-state, StateFits, holds}
use Rattle.state_writes.proofs.whole.store.Goals as goal

pub returns : goal.returns
unfolding bytes_of
returns c = let s = c.args.state in
    let b = c.args.b.now in
    let arrays = whole s _ c.well_formed.1.0 in
    let one = laid-first (state_fields s) b 0 (state-widths s arrays) (omega arith) (omega arith) c.store_config.ensures.b_after in
    let two = laid_more one (omega arith) c.store_counts.ensures.b_after in
    let three = laid_more two (omega arith) c.store_job.ensures.b_after in
    let four = laid_more three (omega arith) c.store_stack.ensures.b_after in
    let five = laid_more four (omega arith) c.store_payloads.ensures.b_after in
    let fits : StateFits s = record {
      whole = arrays;
      config = c.store_config.ensures.config_value;
      count = c.store_counts.ensures.count_bound.0;
      depth = c.store_counts.ensures.count_bound.1;
      version = c.store_counts.ensures.count_bound.2;
      job = c.store_job.ensures.held_len.1;
      stack = c.store_stack.ensures.stack_len.1;
      payloads = c.store_payloads.ensures.payloads_len.1;
    } in
    holds s fits _ (five.bytes ∙ splice-whole b (bytes_of s) (length-state s arrays ∙ sym c.requires))
