-- `time_out` meets its contract: the result of the job's payload, and no job.
use mathlib.Core.Path.{ap, ◌∙◌}
use Rattle.state.specs.State.{no_job, with_job}
use Rattle.state.specs.declared.state.Job.{Job}
use Rattle.state.specs.declared.state.State.{State}
use Rattle.state.proofs.Whole.{whole}
use Rattle.ranges.proofs.Laws.{in-range}
use Rattle.rendezvous.specs.Rendezvous.{timed_out}
use Rattle.rendezvous.proofs.time_out.Goals as goal

pub set_result_in-next-requires : goal.set_result_in-next-requires
set_result_in-next-requires c = (in-range (whole c.args.state _ c.well_formed.0) c.requires).few

pub returns : goal.returns
unfolding timed_out
returns c = ap (λ (j : Job). with_job j c.set_result_in-next.result) c.none-next.ensures
    ∙ ap (λ (s : State). with_job no_job s) c.set_result_in-next.ensures
