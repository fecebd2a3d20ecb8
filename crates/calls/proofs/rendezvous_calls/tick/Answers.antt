-- `rendezvous_calls::tick` meets its contract.
use mathlib.Core.Path.{◌≡◌, refl}
use mathlib.Core.Bool.{true}
use Rattle.words.proofs.Tests.{held, refuted}
use Rattle.state_bytes.specs.Stored.{is_state}
use Rattle.calls.specs.Changes.{tick_told}
use Rattle.calls.proofs.Laws.{told-invalid, refused-told, refused-kept, made_told}
use Rattle.calls.proofs.rendezvous_calls.tick.Goals as goal
use Rattle.calls.proofs.rendezvous_calls.tick.Goals.{Else-not-is_state}

pub returns-then-not-is_state : goal.returns-then-not-is_state
unfolding tick_told
returns-then-not-is_state c = let none = refuted c.is_state.ensures c.if-not-is_state.true in
    record { tt_after = refused-told _ none _ _ (told-invalid c.new.ensures c.code.ensures); records_kept = refused-kept _ none }

whole : (c : goal.Else-not-is_state) → is_state c.args.records.now ≡ true
whole c = held c.is_state.ensures c.if-not-is_state.false

pub returns : goal.returns
unfolding tick_told
returns c = let call = c.tick-verdict.ensures in
    let both = made_told c.args.records.now tt (whole (goal.at.returns c).Else-not-is_state) c.code-2.ensures call.0 call.1 refl in
    record { tt_after = both.0; records_kept = both.1 }

pub tick-verdict-requires : goal.tick-verdict-requires
tick-verdict-requires c = whole (goal.at.tick-verdict-requires c).Else-not-is_state
