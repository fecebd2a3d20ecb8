-- `step::applied_choice` meets its contract: the next step is removal `rest` of the first `i` payloads of the stack.
use Prim.Native.Nat.{ℕ, suc, ◌-◌, ◌<◌}
use mathlib.Core.Path.{◌≡◌, ap, subst⁻¹, ◌∙◌}
use mathlib.Core.List.{List}
use native.Mathlib.Omega.{arith}
use lib.ListN.{length, get_or}
use Rattle.state.specs.Find.{payload_in}
use Rattle.state.specs.declared.state.State.{State}
use Rattle.steps.proofs.StepLaws.{stacked, none-stacked, replacing-next, Left, Removes, of-newest, of-older}
use Rattle.steps.proofs.step.applied_choice.Goals as goal
use Rattle.steps.proofs.step.applied_choice.Goals.{After-edits_in-count}

pub loop-i-init : goal.loop-i-init
loop-i-init c = λ s h. rw (h.0.depth, h.0.steps) (replacing-next s h.1 h.2)

-- in a turn: the newest payload of those left, in a state that has the outline
module _ (c : goal.After-edits_in-count) (s : State) (h : Removes c.args.outline s) where
  abbrev i : ℕ
  i = c.loop-i.i - 1

  deep : i < length s.stack
  deep = omega (arith, h.0.stacked)

  count : c.edits_in-count.result ≡ (stacked s i).edit_count
  count = c.edits_in-count.ensures s h.0 ∙ ap (λ (l : List ℕ). (payload_in s (get_or l i 0)).edit_count) h.0.stack

  left : Left s (suc i) c.loop-i.rest
  left =
      let back : suc i ≡ c.loop-i.i = omega arith in
      subst⁻¹ (λ (n : ℕ). Left s n c.loop-i.rest) back (c.loop-i.invariant s h)

pub returns-then-rest-count : goal.returns-then-rest-count
returns-then-rest-count c = λ s g all early.
    let h : Removes c.args.outline s = (g, all, early) in
    let t = (goal.at.returns-then-rest-count c).After-edits_in-count in
    c.choice_in.ensures s g
    (omega (arith, c.edits_in-count.ensures s g, c.if-rest-count.true))
    (rw g.stack (of-newest s (i t s h) _ _ (deep t s h) (count t s h) (left t s h) c.if-rest-count.true))

pub loop-i-preserved : goal.loop-i-preserved
loop-i-preserved c = λ s h.
    let t = (goal.at.loop-i-preserved c).After-edits_in-count in
    of-older s (i t s h) _ _ (deep t s h) (count t s h) (left t s h) c.if-rest-count.false

pub returns : goal.returns
returns c = λ s g all early.
    let l = c.loop-i in
    let none : l.i ≡ 0 = omega arith in
    let left : Left s 0 l.rest = rw none at (l.invariant s (g, all, early)) in
    absurd (omega (arith, left.0, none-stacked s))
