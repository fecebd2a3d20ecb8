-- Document 01's holds: a job gathers the CPUs. Here a hold is called a rendezvous, complete once all CPUs are held.
use Rattle.records.specs.Refusal.{Verdict}
use Rattle.std.specs.Prelude.{ℕ, ◌-◌, Bool, true, cond, ltb, eqb, take, set, Ok, Err}
use Rattle.words.specs.Find.{every}
use Rattle.records.specs.Verdict.{must, ◌then◌, decide}
use Rattle.records.specs.declared.refusal.Place.TheVariants.{Nowhere}
use Rattle.state.specs.Change.{changed_in}
use Rattle.state.specs.State.{called, no_job, is_standing, with_result, with_job}
use Rattle.state.specs.declared.state.Called.{Called}
use Rattle.state.specs.declared.state.Job.{Job}
use Rattle.state.specs.declared.state.State.{State}
use Rattle.ranges.specs.Ranges.{in_range}

-- "Once all are held the hold is complete"
unfoldable pub is_complete : State → Bool
is_complete s = every (λ held. held) (take s.config.cpus s.job.held)

-- ---- a CPU reports

-- "report, tick or work with no job", "CPU number": 22
unfoldable pub report_rules : State → ℕ → Verdict
report_rules s cpu =
    must (in_range s) 22 Nowhere
    then must (is_standing s.job) 22 Nowhere
    then must (ltb cpu s.config.cpus) 22 Nowhere

abbrev pub with_held : ℕ → Job → Job
with_held cpu j = record { action = j.action; slot = j.slot; held = set j.held cpu true; time = j.time; steps = j.steps }

-- "A report marks one CPU (0 to count - 1) held (again: no change)."
unfoldable pub report_of : State → ℕ → Called
report_of s cpu = decide (λ r. called (Err r) s) (called (Ok tt) (with_job (with_held cpu s.job) s)) (report_rules s cpu)

-- ---- a tick

unfoldable pub tick_rules : State → Verdict
tick_rules s = must (in_range s) 22 Nowhere then must (is_standing s.job) 22 Nowhere

abbrev pub with_time : ℕ → Job → Job
with_time time j = record { action = j.action; slot = j.slot; held = j.held; time = time; steps = j.steps }

-- "at 0 the job ends with result -16, status as before, all CPUs free"
unfoldable pub timed_out : State → State
timed_out s = with_job no_job (changed_in (with_result 16) s s.job.slot)

-- "Each tick takes 1 from the time given"; "Once all are held .., ticks do nothing"
unfoldable pub ticked : State → State
ticked s =
    cond (is_complete s) s
    (cond (eqb s.job.time 1) (timed_out s)
    (with_job (with_time (s.job.time - 1) s.job) s))

unfoldable pub tick_of : State → Called
tick_of s = decide (λ r. called (Err r) s) (called (Ok tt) (ticked s)) (tick_rules s)
