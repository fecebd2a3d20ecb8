-- `edits::kind_ok` meets its contract.
use mathlib.Core.Path.{sym}
use borrow.Author.Tests.{eq-eqb, ne_eqb}
use Rattle.state_bytes.specs.Flags.{kind_ok}
use Rattle.state_bytes.proofs.edits.kind_ok.Goals as goal

pub returns-then-number-eq0 : goal.returns-then-number-eq0
unfolding kind_ok
returns-then-number-eq0 c = simp (sym c.load4-number.ensures, sym c.load8.ensures, eq-eqb _ _ c.if-number-eq0.true)

pub returns : goal.returns
unfolding kind_ok
returns c = simp (sym c.load4-number.ensures, ne_eqb _ _ c.if-number-eq0.false)
