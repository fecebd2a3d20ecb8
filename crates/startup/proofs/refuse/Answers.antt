-- `refuse` meets its contract: 22 at no place, and the state of no unit.
use mathlib.Core.Path.{ap, ◌∙◌}
use mathlib.Core.Bool.{false}
use Rattle.records.specs.Verdict.{must}
use Rattle.records.specs.declared.refusal.Place.TheVariants.{Nowhere}
use Rattle.state.specs.State.{state_with}
use Rattle.state.specs.declared.state.State.{State}
use Rattle.startup.proofs.refuse.Goals as goal

pub returns : goal.returns
returns c = rw c.refused-verdict.ensures
    (ap (λ (s : State). record { verdict = must false 22 Nowhere; state = s }) (c.with_config-state.ensures ∙ ap state_with c.none.ensures))
