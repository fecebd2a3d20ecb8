-- `get` meets its contract.
use Rattle.std.proofs.Common.{ℕ, ◌≡◌, length, true, Ok, Err, sym, ap, ◌∙◌}
use Rattle.words.proofs.Tests.{held, refuted}
use Rattle.questions.specs.Questions.{asked, right_buffers, get_size}
use Rattle.calls.proofs.Laws.{told-invalid}
use Rattle.questions.proofs.QuestionLaws.{two-chained, right-records, get-wrong, get-told}
use Rattle.questions.proofs.get.Goals as goal
use Rattle.questions.proofs.get.Goals.{Else-not-right_buffers}

pub returns-then-not-right_buffers : goal.returns-then-not-right_buffers
returns-then-not-right_buffers c = get-wrong _ _ _ (refuted c.right_buffers.ensures c.if-not-right_buffers.true)
    (told-invalid c.new.ensures c.code.ensures)

right : (c : goal.Else-not-right_buffers) → right_buffers c.args.records.now (length c.args.out.now) get_size ≡ true
right c = held c.right_buffers.ensures c.if-not-right_buffers.false

pub get_in-requires : goal.get_in-requires
get_in-requires c = right-records _ _ _ (right (goal.at.get_in-requires c).Else-not-right_buffers)

pub returns-in-Ok : goal.returns-in-Ok
returns-in-Ok c = get-told _ _ _ (Ok _) (right (goal.at.returns-in-Ok c).Else-not-right_buffers) (sym c.in-Ok.is ∙ c.get_in.ensures)
    (ap (asked 0) (c.write_numbers.ensures ∙ two-chained _ _))

pub returns-in-Err : goal.returns-in-Err
returns-in-Err c = get-told _ _ _ (Err _) (right (goal.at.returns-in-Err c).Else-not-right_buffers) (sym c.in-Err.is ∙ c.get_in.ensures)
    (ap (λ (n : ℕ). asked n c.args.out.now) c.code-in-Err.ensures)
