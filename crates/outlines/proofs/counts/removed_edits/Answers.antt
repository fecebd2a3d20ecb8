-- `counts::removed_edits` meets its contract: by the job's action.
use Prim.Native.Nat.{ℕ}
use mathlib.Core.Path.{sym, ap, ◌∙◌}
use native.Mathlib.Omega.{arith}
use Rattle.words.proofs.Tests.{differs, equals}
use Rattle.state.specs.Find.{payload_in}
use Rattle.state.specs.Steps.{removing}
use Rattle.state.proofs.StepLaws.{length-removals}
use Rattle.outlines.proofs.counts.removed_edits.Goals as goal

pub returns-then-outline-eq-REVERT : goal.returns-then-outline-eq-REVERT
unfolding removing
returns-then-outline-eq-REVERT c = (
  λ s h.
      rw (equals h.action c.if-outline-eq-REVERT.true)
      (c.edits_in.ensures s h
      ∙ ap (λ (slot : ℕ). (payload_in s slot).edit_count) h.slot
      ∙ sym (length-removals (payload_in s s.job.slot))),
  omega arith,
)

pub returns-then-outline-eq-REPLACE : goal.returns-then-outline-eq-REPLACE
unfolding removing
returns-then-outline-eq-REPLACE c = (
  λ s h.
      rw (differs h.action c.if-outline-eq-REVERT.false, equals h.action c.if-outline-eq-REPLACE.true)
      (c.applied_edits.ensures.0 s h),
  c.applied_edits.ensures.1,
)

pub returns : goal.returns
unfolding removing
returns c = (λ s h. rw (differs h.action c.if-outline-eq-REVERT.false, differs h.action c.if-outline-eq-REPLACE.false), omega arith)
