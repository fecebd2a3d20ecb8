-- `top_build_id` meets its contract.
use mathlib.Core.Path.{◌≡◌, ap, ◌∙◌}
use mathlib.Core.Bool.{true}
use lib.ListN.{length}
use Rattle.words.proofs.Tests.{held, refuted}
use Rattle.state.specs.declared.state.State.{State}
use Rattle.queries.specs.TopId.{id_sizes_ok, top_place}
use Rattle.queries.proofs.TopIdLaws.{sizes-told}
use Rattle.state_bytes.specs.Stored.{state_in}
use Rattle.questions.specs.Questions.{right_buffers, top_size}
use Rattle.calls.proofs.Laws.{told-invalid}
use Rattle.questions.proofs.QuestionLaws.{three-chained, right-records, top-wrong, top-refused, top-told}
use Rattle.questions.proofs.top_build_id.Goals as goal
use Rattle.questions.proofs.top_build_id.Goals.{Else-not-right_buffers, After-sizes_ok}

pub returns-then-not-right_buffers : goal.returns-then-not-right_buffers
returns-then-not-right_buffers c = top-wrong _ _ _ _ (refuted c.right_buffers.ensures c.if-not-right_buffers.true)
    (told-invalid c.new.ensures c.code.ensures)

right : (c : goal.Else-not-right_buffers) → right_buffers c.args.records.now (length c.args.out.now) top_size ≡ true
right c = held c.right_buffers.ensures c.if-not-right_buffers.false

pub load-state-requires : goal.load-state-requires
load-state-requires c = right-records c.args.records.now (length c.args.out.now) top_size (right c)

-- the test of the sizes is that of the state in the records
sizes :
    (c : goal.After-sizes_ok) →
    let a = c.args in
    c.sizes_ok.result ≡ id_sizes_ok (state_in a.records.now) (length a.build_id.now) (length a.ids.now)
sizes c = let a = c.args in
    c.sizes_ok.ensures ∙ ap (λ (s : State). id_sizes_ok s (length a.build_id.now) (length a.ids.now)) c.load-state.ensures

pub returns-then-not-sizes_ok : goal.returns-then-not-sizes_ok
returns-then-not-sizes_ok c =
    let at = goal.at.returns-then-not-sizes_ok c in
    top-refused _ _ _ _ (right at.Else-not-right_buffers) (refuted (sizes at.After-sizes_ok) c.if-not-sizes_ok.true)
    (told-invalid c.new-then-not-sizes_ok.ensures c.code-then-not-sizes_ok.ensures)

pub top_place-place-requires : goal.top_place-place-requires
top_place-place-requires c = (sizes-told _ _ _ (held c.sizes_ok.ensures c.if-not-sizes_ok.false)).ranges

pub returns : goal.returns
returns c =
    let at = goal.at.returns c in
    top-told _ _ _ _ c.top_place-place.result (right at.Else-not-right_buffers) (held (sizes at.After-sizes_ok) c.if-not-sizes_ok.false)
    (c.top_place-place.ensures ∙ ap top_place c.load-state.ensures)
    (c.write_numbers.ensures ∙ three-chained _ _ _)
