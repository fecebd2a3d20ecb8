-- `counts::laid_edits` meets its contract: a job that lays lays each edit of its payload.
use Prim.Native.Nat.{ℕ}
use mathlib.Core.Path.{◌≡◌, sym, ap, ◌∙◌}
use mathlib.Core.Bool.{true, ◌||◌, or-true}
use native.Mathlib.Omega.{arith}
use lib.Dec.{eqb}
use Rattle.words.proofs.Tests.{differs, equals}
use Rattle.state.specs.Find.{payload_in}
use Rattle.state.specs.State.{apply, replace}
use Rattle.state.specs.Steps.{laying}
use Rattle.state.specs.declared.state.State.{State}
use Rattle.state.proofs.StepLaws.{length-layings}
use Rattle.outlines.specs.Outline.{Outlines}
use Rattle.outlines.proofs.counts.laid_edits.Goals as goal
use Rattle.outlines.proofs.counts.laid_edits.Goals.{Joined-outline-ne-APPLY, then-outline-ne-APPLY+else-outline-ne-REPLACE, else-outline-ne-APPLY}

pub returns-then-outline-ne-REPLACE : goal.returns-then-outline-ne-REPLACE
unfolding laying
returns-then-outline-ne-REPLACE c = (λ s h. rw (differs h.action c.if-outline-ne-APPLY.true, differs h.action c.if-outline-ne-REPLACE.true), omega arith)

-- either way here, the job lays
lays :
    (c : goal.Joined-outline-ne-APPLY) (s : State) → Outlines c.args.outline s →
    (eqb s.job.action apply || eqb s.job.action replace) ≡ true
lays c s h =
    elim c.if-outline-ne-APPLY.branch [
      | then-outline-ne-APPLY+else-outline-ne-REPLACE w ↦ simp (equals h.action w.if-outline-ne-REPLACE.false, or-true)
      | else-outline-ne-APPLY w ↦ simp (equals h.action w.if-outline-ne-APPLY.false)
    ]

pub returns : goal.returns
unfolding laying
returns c = (
  λ s h.
      rw (lays (goal.at.returns c).Joined-outline-ne-APPLY s h)
      (c.edits_in.ensures s h
      ∙ ap (λ (slot : ℕ). (payload_in s slot).edit_count) h.slot
      ∙ sym (length-layings (payload_in s s.job.slot))),
  omega arith,
)
