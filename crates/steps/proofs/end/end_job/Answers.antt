-- `end::end_job` meets its contract: the stack, the statuses, and no job.
use mathlib.Core.Path.{ap, ◌∙◌}
use Rattle.state.specs.State.{no_job, with_job}
use Rattle.state.specs.declared.state.Job.{Job}
use Rattle.state.specs.declared.state.State.{State}
use Rattle.state.proofs.Whole.{whole}
use Rattle.ranges.proofs.Laws.{in-range}
use Rattle.steps.specs.Next.{statuses_set, ended}
use Rattle.steps.proofs.EndLaws.{stack-counts}
use Rattle.steps.proofs.end.end_job.Goals as goal

pub set_statuses-next-requires : goal.set_statuses-next-requires
set_statuses-next-requires c = rw (c.set_stack-stacked.ensures, stack-counts c.args.state)
    (in-range (whole c.args.state _ c.well_formed.0) c.requires.0).few

pub returns : goal.returns
unfolding ended
returns c = ap (λ (j : Job). with_job j c.set_statuses-next.result) c.none-next.ensures
    ∙ ap (λ (s : State). with_job no_job s) c.set_statuses-next.ensures
    ∙ ap (λ (s : State). with_job no_job (statuses_set s)) c.set_stack-stacked.ensures
