-- `find::with_slot` meets its contract: what is found from payload `i` on is what is found from the first on.
use Prim.Native.Nat.{◌≤◌}
use mathlib.Core.Path.{refl, sym, ◌∙◌}
use native.Mathlib.Omega.{arith}
use borrow.Author.Tests.{eq-eqb, ne_eqb}
use lib.ListN.{length}
use Rattle.words.proofs.Find.{where-turn, where-end}
use Rattle.state.specs.Find.{with_slot}
use Rattle.state.proofs.Whole.{no_copy, whole}
use Rattle.state.proofs.find.with_slot.Goals as goal
use Rattle.state.proofs.find.with_slot.Goals.{Start}

pub loop-i-init : goal.loop-i-init
unfolding with_slot
loop-i-init c = refl

-- the list has that many payloads
many : (c : goal.Start) → c.args.state.count ≤ length c.args.state.payloads
many c = omega (arith, (whole c.args.state _ c.well_formed.0).payloads)

pub returns-then-state-i : goal.returns-then-state-i
returns-then-state-i c = sym (c.loop-i.invariant ∙ where-turn _ _ _ _ (many (goal.at.returns-then-state-i c).Start) no_copy c.loop-i-test.true ∙ rw (eq-eqb _ _ c.if-state-i.true))

pub loop-i-preserved : goal.loop-i-preserved
loop-i-preserved c = c.loop-i.invariant ∙ where-turn _ _ _ _ (many (goal.at.loop-i-preserved c).Start) no_copy c.loop-i-test.true ∙ rw (ne_eqb _ _ c.if-state-i.false)

pub returns : goal.returns
returns c = sym (c.loop-i.invariant ∙ where-end _ _ _ _ (many (goal.at.returns c).Start) c.loop-i-test.false)
