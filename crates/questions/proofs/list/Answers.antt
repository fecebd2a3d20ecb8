-- `list` meets its contract.
use Rattle.std.proofs.Common.{ℕ, ◌≡◌, length, true, Ok, Err, ap, ◌∙◌}
use Rattle.words.proofs.Tests.{held, refuted}
use Rattle.state.specs.declared.state.State.{State}
use Rattle.listing.specs.List.{buffers, list_of}
use Rattle.questions.specs.Questions.{asked, right_buffers, list_size}
use Rattle.calls.proofs.Laws.{told-invalid}
use Rattle.questions.proofs.QuestionLaws.{three-chained, right-records, list-wrong, list-told}
use Rattle.questions.proofs.list.Goals as goal
use Rattle.questions.proofs.list.Goals.{Else-not-right_buffers}

pub returns-then-not-right_buffers : goal.returns-then-not-right_buffers
returns-then-not-right_buffers c = list-wrong _ _ _ _ _ (refuted c.right_buffers.ensures c.if-not-right_buffers.true)
    (told-invalid c.new.ensures c.code.ensures)

right : (c : goal.Else-not-right_buffers) → right_buffers c.args.records.now (length c.args.out.now) list_size ≡ true
right c = held c.right_buffers.ensures c.if-not-right_buffers.false

pub load-requires : goal.load-requires
load-requires c = right-records _ _ _ (right (goal.at.load-requires c).Else-not-right_buffers)

pub returns-in-Ok : goal.returns-in-Ok
returns-in-Ok c = let a = c.args in
    let lent = buffers a.statuses.now a.names.now a.lengths.now in
    list-told _ _ _ lent a.out.now (Ok _) _ (right (goal.at.returns-in-Ok c).Else-not-right_buffers)
    (c.in-Ok.ensures ∙ ap (λ (s : State). list_of s a.idx a.nr lent) c.load.ensures)
    (ap (asked 0) (c.write_numbers.ensures ∙ three-chained _ _ _))

pub returns-in-Err : goal.returns-in-Err
returns-in-Err c = let a = c.args in
    let lent = buffers a.statuses.now a.names.now a.lengths.now in
    list-told _ _ _ lent a.out.now (Err _) _ (right (goal.at.returns-in-Err c).Else-not-right_buffers)
    (c.in-Err.ensures ∙ ap (λ (s : State). list_of s a.idx a.nr lent) c.load.ensures)
    (ap (λ (n : ℕ). asked n a.out.now) c.code-in-Err.ensures)
