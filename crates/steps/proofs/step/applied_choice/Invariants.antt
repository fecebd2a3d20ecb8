-- `step::applied_choice` meets its contract: the next step is removal `rest` of the first `i` payloads of the stack.
use Rattle.state.specs.declared.state.State.{State}
use Rattle.steps.proofs.StepLaws.{Left, Removes}
use Rattle.steps.proofs.step.applied_choice.Given as goal

abbrev pub invariant-loop-i : goal.invariant-loop-i
invariant-loop-i l = (s : State) → Removes l.outline s → Left s l.i l.rest
