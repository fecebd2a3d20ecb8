-- `working::work` meets its contract.
use mathlib.Core.Path.{◌≡◌}
use mathlib.Core.Bool.{true}
use Rattle.words.proofs.Tests.{held, refuted}
use Rattle.work.specs.Work.{lent}
use Rattle.state_bytes.specs.Stored.{is_state}
use Rattle.calls.specs.Changes.{work_told}
use Rattle.calls.proofs.Laws.{told-invalid, refused-told, refused-kept, made_told}
use Rattle.calls.proofs.working.work.Goals as goal
use Rattle.calls.proofs.working.work.Goals.{Else-not-is_state}

pub returns-then-not-is_state : goal.returns-then-not-is_state
unfolding work_told
returns-then-not-is_state c = let none = refuted c.is_state.ensures c.if-not-is_state.true in
    record { undo_after = refused-told _ none _ _ (told-invalid c.new.ensures c.code.ensures); records_kept = refused-kept _ none }

whole : (c : goal.Else-not-is_state) → is_state c.args.records.now ≡ true
whole c = held c.is_state.ensures c.if-not-is_state.false

pub returns : goal.returns
unfolding work_told
returns c = let a = c.args in
    let call = c.work-verdict.ensures in
    let both = made_told a.records.now (lent a.text.now a.undo.now) (whole (goal.at.returns c).Else-not-is_state) c.code-2.ensures call.0 call.1 call.2 in
    record { undo_after = both.0; records_kept = both.1 }

pub work-verdict-requires : goal.work-verdict-requires
work-verdict-requires c = whole (goal.at.work-verdict-requires c).Else-not-is_state
