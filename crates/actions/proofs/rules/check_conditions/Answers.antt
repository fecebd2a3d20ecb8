-- `rules::check_conditions` meets its contract: the status, then the stack.
use Rattle.std.proofs.Common.{◌≡◌, Bool, sym, ap, ◌∙◌}
use Rattle.records.specs.Verdict.{must}
use Rattle.records.specs.declared.refusal.Place.TheVariants.{Nowhere}
use Rattle.actions.specs.Actions.{condition_rules}
use Rattle.actions.proofs.ActionLaws.{wrong-status, right-status}
use Rattle.actions.proofs.rules.check_conditions.Goals as goal
use Rattle.actions.proofs.rules.check_conditions.Goals.{After-base_ok}

pub returns-then-payload-status_for : goal.returns-then-payload-status_for
returns-then-payload-status_for c = c.refused.ensures ∙ sym (wrong-status _ _ _ _ _ c.status_for.ensures c.if-payload-status_for.true)

-- the status is right: the stack decides
by-stack :
    (c : goal.After-base_ok) {b : Bool} → c.base_ok.result ≡ b →
    let a = c.args in
    condition_rules a.state a.build_id.now a.ids.now a.command a.payload ≡ must b 33 Nowhere
by-stack c e =
    right-status _ _ _ _ _ c.status_for.ensures c.if-payload-status_for.false c.base_ok.ensures
    ∙ ap (λ (b : Bool). must b 33 Nowhere) e

pub returns-then-not-base_ok : goal.returns-then-not-base_ok
returns-then-not-base_ok c =
    c.refused-then-not-base_ok.ensures
    ∙ sym (by-stack (goal.at.returns-then-not-base_ok c).After-base_ok c.if-not-base_ok.true)

pub returns : goal.returns
returns c = sym (by-stack (goal.at.returns c).After-base_ok c.if-not-base_ok.false)
