-- `store_held` meets its contract: the bytes of the first `i` CPUs are written.
use mathlib.Core.Path.{sym, ◌∙◌}
use mathlib.Core.Bool.{false}
use native.Mathlib.Omega.{arith}
use lib.ListN.{length-map, get_or-map}
use Rattle.words.proofs.Written.{written_none, written-more, written_all}
use Rattle.state_bytes.specs.Stored.{flag_byte}
use Rattle.state_writes.proofs.head.store_held.Goals as goal

pub loop-i-init : goal.loop-i-init
loop-i-init c = written_none _ _ _

pub loop-i-preserved : goal.loop-i-preserved
loop-i-preserved c = let held = c.args.held in
    let size = length-map held flag_byte in
    let flag = c.flag_byte.ensures ∙ sym (get_or-map flag_byte held c.loop-i.i false) in
    written-more _ _ _ c.loop-i.i c.loop-i.invariant _ (omega arith) (omega arith) flag

pub returns : goal.returns
returns c = let held = c.args.held in
    let size = length-map held flag_byte in
    record { b_after = written_all _ _ _ c.loop-i.i c.loop-i.invariant (omega (arith, c.loop-i.invariant.some)); held_len = omega arith }
