-- `end::take_down` meets its contract: the payloads before `i` have status 1.
use Rattle.state.specs.State.{checked, with_status, with_payloads}
use Rattle.state_bytes.specs.Stored.{state_in, HoldsState}
use Rattle.steps.proofs.EndLaws.{first_of}
use Rattle.work_in_place.proofs.end.take_down.Given as goal

abbrev pub invariant-loop-i : goal.invariant-loop-i
invariant-loop-i l = HoldsState (with_payloads (first_of (with_status checked) l.i (state_in l.initial.b).payloads) (state_in l.initial.b)) l.b
