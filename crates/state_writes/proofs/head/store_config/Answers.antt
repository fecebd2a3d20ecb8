-- `store_config` meets its contract: the five numbers, one behind the other, are the bytes of start-up's numbers.
use native.Mathlib.Omega.{arith}
use Rattle.state_bytes.specs.Stored.{config_fields, config_bytes}
use Rattle.state_bytes.proofs.Fields.{laid-first, laid_more}
use Rattle.state_bytes.proofs.Readers.{config-widths}
use Rattle.state_writes.proofs.Back.{config-back}
use Rattle.state_writes.proofs.head.store_config.Goals as goal

pub returns : goal.returns
unfolding config_bytes
returns c = let a = c.args in
    let config = a.config in
    let one = laid-first (config_fields config) a.b.now 0 (config-widths config) (omega arith) (omega arith) c.store8.ensures.b_after in
    let two = laid_more one (omega arith) c.store8-2.ensures.b_after in
    let three = laid_more two (omega arith) c.store8-3.ensures.b_after in
    let four = laid_more three (omega arith) c.store4.ensures.b_after in
    let five = laid_more four (omega arith) c.store4-2.ensures.b_after in record {
      b_after = five.bytes;
      config_value = config-back
          config
          (record {
            text = c.store8.ensures.x_bound;
            text_length = c.store8-2.ensures.x_bound;
            arena = c.store8-3.ensures.x_bound;
            id_length = c.store4.ensures.x_bound;
            cpus = c.store4-2.ensures.x_bound;
          });
    }
