-- `end::all_checked` meets its contract: the payloads before `i` have status 1.
use mathlib.Core.Path.{◌≡◌}
use Rattle.state.specs.State.{checked, with_status, with_payloads}
use Rattle.steps.proofs.EndLaws.{first_of}
use Rattle.steps.proofs.end.all_checked.Given as goal

abbrev pub invariant-loop-i : goal.invariant-loop-i
invariant-loop-i l = l.next ≡ with_payloads (first_of (with_status checked) l.i l.fn.state.payloads) l.fn.state
