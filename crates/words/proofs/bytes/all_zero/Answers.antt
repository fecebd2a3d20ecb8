-- `bytes::all_zero` meets its contract: all bytes are zero exactly where those left are.
use Rattle.std.proofs.Common.{◌≤◌, length, refl, ◌∙◌, arith, drop_of_length-le, eq-eqb, ne_eqb}
use Rattle.words.specs.Order.{all_zero}
use Rattle.words.proofs.Order.{all-zero-at}
use Rattle.words.proofs.bytes.all_zero.Goals as goal

pub loop-b-init : goal.loop-b-init
loop-b-init c = refl

pub returns-then-b-ne0 : goal.returns-then-b-ne0
returns-then-b-ne0 c = let l = c.loop-b in
    rw (l.invariant, all-zero-at c.args.s.now l.b-index (omega arith), ne_eqb _ _ c.if-b-ne0.true)

pub loop-b-preserved : goal.loop-b-preserved
loop-b-preserved c = let l = c.loop-b in
    l.invariant ∙ all-zero-at c.args.s.now l.b-index (omega arith) ∙ rw (eq-eqb _ _ c.if-b-ne0.false)

pub returns : goal.returns
unfolding all_zero
returns c = let a = c.args in
    let end : length a.s.now ≤ c.loop-b.b-index = omega arith in
    rw (c.loop-b.invariant, drop_of_length-le a.s.now end)
