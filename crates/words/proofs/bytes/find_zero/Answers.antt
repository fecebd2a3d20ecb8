-- `bytes::find_zero` meets its contract: what is found from `i` on is what is found from `from` on.
use Rattle.std.proofs.Common.{sym, ◌∙◌, eq-eqb, ne_eqb}
use Rattle.words.proofs.Name.{zero_turn, zero-end}
use Rattle.words.proofs.bytes.find_zero.Goals as goal

pub returns-then-s-i-eq0 : goal.returns-then-s-i-eq0
returns-then-s-i-eq0 c = sym (c.loop-i.invariant ∙ zero_turn _ _ c.loop-i-test.true ∙ rw (eq-eqb _ _ c.if-s-i-eq0.true))

pub loop-i-preserved : goal.loop-i-preserved
loop-i-preserved c = c.loop-i.invariant ∙ zero_turn _ _ c.loop-i-test.true ∙ rw (ne_eqb _ _ c.if-s-i-eq0.false)

pub returns : goal.returns
returns c = sym (c.loop-i.invariant ∙ zero-end _ _ c.loop-i-test.false)
