-- `bytes::compare` meets its contract: the answer is that for what is left of the strings, after the bytes compared before.
use Rattle.std.proofs.Common.{◌≡◌, length, min, sym, ◌∙◌, arith}
use Rattle.std.proofs.lemmas.Bool.Decides.{nat_tests}
use Rattle.words.proofs.Order.{compared-begin, compared-differs, compared-further, compared-ended}
use Rattle.words.proofs.bytes.compare.Goals as goal
use Rattle.words.proofs.bytes.compare.Goals.{After-min-shorter}

shorter : (c : goal.After-min-shorter) → c.min-shorter.result ≡ min (length c.args.a.now) (length c.args.b.now)
shorter c = grind (arith, nat_tests, c.min-shorter.ensures)

pub loop-i-init : goal.loop-i-init
loop-i-init c = compared-begin _ _

pub returns-then-x-y : goal.returns-then-x-y
returns-then-x-y c =
    let both = shorter (goal.at.returns-then-x-y c).After-min-shorter in
    sym
    (c.loop-i.invariant
    ∙ compared-differs _ _ _ (omega arith) (omega arith) c.if-x-y.true
    ∙ rw (← c.number_order.ensures))

pub loop-i-preserved : goal.loop-i-preserved
loop-i-preserved c =
    let both = shorter (goal.at.loop-i-preserved c).After-min-shorter in
    c.loop-i.invariant ∙ compared-further _ _ _ (omega arith) (omega arith) c.if-x-y.false

pub returns : goal.returns
returns c =
    let both = shorter (goal.at.returns c).After-min-shorter in
    let end : c.loop-i.i ≡ c.min-shorter.result = omega arith in
    sym (c.loop-i.invariant ∙ compared-ended _ _ _ (omega arith) ∙ rw (← c.number_order-2.ensures, end))
