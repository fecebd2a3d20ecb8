-- `bytes::same` meets its contract: the lists are equal exactly where what is left of them is.
use Rattle.std.proofs.Common.{◌≤◌, length, sym, refl, ◌∙◌, arith, drop_of_length-le, eq-eqb, ne_eqb}
use Rattle.words.specs.Order.{equal}
use Rattle.words.proofs.Order.{equal-lengths, equal-at}
use Rattle.words.proofs.bytes.same.Goals as goal

pub returns-then-a-b : goal.returns-then-a-b
returns-then-a-b c = sym (equal-lengths _ _ c.if-a-b.true)

pub loop-i-init : goal.loop-i-init
loop-i-init c = refl

pub returns-then-a-i : goal.returns-then-a-i
returns-then-a-i c = let a = c.args in
    let l = c.loop-i in
    rw (l.invariant, equal-at a.a.now a.b.now l.i (omega arith) (omega arith), ne_eqb _ _ c.if-a-i.true)

pub loop-i-preserved : goal.loop-i-preserved
loop-i-preserved c = let a = c.args in
    let l = c.loop-i in
    l.invariant ∙ equal-at a.a.now a.b.now l.i (omega arith) (omega arith) ∙ rw (eq-eqb _ _ c.if-a-i.false)

pub returns : goal.returns
unfolding equal
returns c = let a = c.args in
    let end-a : length a.a.now ≤ c.loop-i.i = omega arith in
    let end-b : length a.b.now ≤ c.loop-i.i = omega arith in
    rw (c.loop-i.invariant, drop_of_length-le a.a.now end-a, drop_of_length-le a.b.now end-b)
