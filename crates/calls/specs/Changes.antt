-- Report, tick and work step over the records buffer.
use Rattle.std.specs.Prelude.{ℕ, List}
use Rattle.rendezvous.specs.Rendezvous.{report_of, tick_of}
use Rattle.work.specs.Work as work
use Rattle.state.specs.declared.state.Called.{Called}
use Rattle.state_bytes.specs.Stored.{state_in}
use Rattle.calls.specs.Told.{Told, stored, over_records}

-- ---- report and tick, which are lent the records alone

abbrev pub called_told : List ℕ → Called → Told (Unit {0})
called_told b c = over_records b tt (stored c.verdict c.state tt)

unfoldable pub report_told : List ℕ → ℕ → Told (Unit {0})
report_told b cpu = called_told b (report_of (state_in b) cpu)

unfoldable pub tick_told : List ℕ → Told (Unit {0})
tick_told b = called_told b (tick_of (state_in b))

-- ---- a work step

unfoldable pub work_told : List ℕ → work.Lent → Told work.Lent
work_told b l =
    let w : work.Worked = work.work_of (state_in b) l in
    over_records b l (stored w.answer w.state w.after)
