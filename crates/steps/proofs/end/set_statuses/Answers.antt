-- `end::set_statuses` meets its contract: a replace takes all payloads down first.
use mathlib.Core.Path.{ap, ◌∙◌}
use borrow.Author.Tests.{eq-eqb, ne_eqb}
use Rattle.state.specs.Change.{changed_in}
use Rattle.state.specs.declared.state.State.{State}
use Rattle.steps.specs.Next.{all_checked, finished, statuses_set}
use Rattle.steps.proofs.end.set_statuses.Goals as goal

pub finish-requires : goal.finish-requires
unfolding all_checked
finish-requires c = rw c.all_checked-next.ensures c.requires

pub returns-then-job-eq-REPLACE : goal.returns-then-job-eq-REPLACE
unfolding statuses_set
returns-then-job-eq-REPLACE c = let s = c.args.state in
    c.finish.ensures
    ∙ ap (λ (n : State). changed_in (finished s.job.action) n s.job.slot) c.all_checked-next.ensures
    ∙ rw (eq-eqb s.job.action _ c.if-job-eq-REPLACE.true)

pub returns : goal.returns
unfolding statuses_set
returns c = let s = c.args.state in
    c.finish-2.ensures ∙ rw (ne_eqb s.job.action _ c.if-job-eq-REPLACE.false)
