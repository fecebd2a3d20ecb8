-- `acting::action` meets its contract.
use mathlib.Core.Path.{◌≡◌, ap, ◌∙◌}
use mathlib.Core.Bool.{true}
use Rattle.words.proofs.Tests.{held, refuted}
use Rattle.state.specs.declared.state.State.{State}
use Rattle.actions.specs.Actions.{lent, request, Acted, acted, action_of}
use Rattle.state_bytes.specs.Stored.{state_in, is_state}
use Rattle.state_bytes.proofs.Laws.{state-length}
use Rattle.action_calls.specs.Changes.{action_told}
use Rattle.calls.proofs.Laws.{told-invalid, refused-told, refused-kept, outcome-told}
use Rattle.action_calls.proofs.acting.action.Goals as goal
use Rattle.action_calls.proofs.acting.action.Goals.{Else-not-is_state}

pub returns-then-not-is_state : goal.returns-then-not-is_state
unfolding action_told
returns-then-not-is_state c = let none = refuted c.is_state.ensures c.if-not-is_state.true in
    record { ids_after = refused-told _ none _ _ (told-invalid c.new.ensures c.code.ensures); records_kept = refused-kept _ none }

whole : (c : goal.Else-not-is_state) → is_state c.args.records.now ≡ true
whole c = held c.is_state.ensures c.if-not-is_state.false

pub returns : goal.returns
unfolding action_told
returns c = let a = c.args in
    let given = lent a.arena.now a.undo.now a.ids.now in
    let asked = request a.name.now a.command a.time in
    let told = outcome-told a.records.now (λ (x : Acted). x.answer) (λ (x : Acted). x.state) (λ (x : Acted). x.after) given
    (acted c.action-called.result _)
    (action_of (state_in a.records.now) a.build_id.now given asked)
    (whole (goal.at.returns c).Else-not-is_state)
    c.code-2.ensures
    c.store.ensures
    (c.action-called.ensures ∙ ap (λ (s : State). action_of s a.build_id.now given asked) c.load.ensures) in
    record { ids_after = told.0; records_kept = told.1 }

pub load-requires : goal.load-requires
load-requires c = state-length _ (whole (goal.at.load-requires c).Else-not-is_state)

pub store-requires : goal.store-requires
store-requires c = state-length _ (whole (goal.at.store-requires c).Else-not-is_state)
