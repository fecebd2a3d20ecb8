-- W2: what a line does, and what is written for it.
use Rattle.std.specs.Prelude.{ℕ, ◌+◌, ◌*◌, ◌%◌, ◌^◌, Bool, cond, ◌&&◌, List, [], ◌∷◌, ◌++◌, length, take, replicate, nat_le, Some, None, Option}
use Rattle.words.specs.Order.{equal}
use Rattle.words.specs.Text.{ascii}
use Rattle.records.specs.Limits.{file_max, name_max}
use Rattle.records.specs.Verdict.{decide}
use Rattle.memory.specs.Memory.{slot_count, arena_size, undo_size, ids_size}
use Rattle.startup.specs.Start as start
use Rattle.upload.specs.Upload as upload
use Rattle.actions.specs.Actions as actions
use Rattle.rendezvous.specs.Rendezvous.{report_of, tick_of}
use Rattle.work.specs.Work as work
use Rattle.queries.specs.Get.{get_of}
use Rattle.listing.specs.List as list
use Rattle.state.specs.declared.state.Called.{Called}
use Rattle.state.specs.declared.state.State.{State}
use Rattle.script.specs.Command.{command_of}
use Rattle.script.specs.Fields.{field_of}
use Rattle.script.specs.Hex.{is_hex, hex_bytes}
use Rattle.script.specs.declared.command.Command.{Command}
use Rattle.script.specs.declared.command.Command.TheVariants.{
  Start,
  Upload,
  Get,
  List as Listing,
  Act,
  Report,
  Tick,
  Work,
}
use Rattle.script.specs.declared.command.Host.{Host}
use Rattle.script.specs.declared.command.Request.{Request}
use Rattle.answers.specs.Answers.{bad_line, verdict_line, got_line, list_lines}
use Rattle.interpreter.specs.Session.{Unit, unit, Pending, pending, Mode, off, ready, payload, dropped, Session, session}

-- the session after a line, and what is written for it
pub record Answer : Type 0 where
  pub session : Session
  pub out : List ℕ

abbrev pub answer : ℕ → Mode → List ℕ → Answer
answer lines mode out = record { session = session lines mode; out = out }

-- "over 4,096 bytes without its line feed"
abbrev pub line_max : ℕ
line_max = 4096

-- "names plain without their zero"
unfoldable pub name_in : List ℕ → List ℕ
name_in line = field_of line 1 ++ (0 ∷ [])

unfoldable pub list_in : List ℕ → List ℕ
list_in line = hex_bytes (field_of line 2)

unfoldable pub id_in : List ℕ → List ℕ
id_in line = hex_bytes (field_of line 5)

-- "writes `bad line` with its number ... and the run goes on"; n is the number of this line
abbrev pub bad : ℕ → Mode → Answer
bad n mode = answer n mode (bad_line n)

-- ---- the calls

-- "`start BASE SIZE ARENA CPUS ID` (text zeros ...)": arena and stores are fresh too
abbrev pub fresh : Host → List ℕ → start.Lent
fresh h id =
    record {
      text = replicate h.size 0;
      text_base = h.base;
      arena = replicate arena_size 0;
      arena_base = h.arena;
      undo = replicate undo_size 0;
      ids = replicate ids_size 0;
      build_id = id;
      cpus = h.cpus;
    }

-- refused, what stood stands
unfoldable pub start_line : ℕ → Mode → Host → List ℕ → Answer
start_line n mode h id =
    let x : start.Started = start.start_of (fresh h id) in
    answer n
    (decide (λ r. mode) (ready (unit x.state (replicate h.size 0) x.arena x.undo x.ids id)) x.answer)
    (verdict_line x.answer)

unfoldable pub get_line : ℕ → Unit → List ℕ → Answer
get_line n u name = answer n (ready u) (got_line (get_of u.state name))

-- all that is loaded, in buffers with room for it
unfoldable pub listed : State → list.Listing
listed s =
    list.list_of s 0 slot_count
    (list.buffers (replicate (8 * slot_count) 0) (replicate (name_max * slot_count) 0) (replicate (4 * slot_count) 0))

unfoldable pub list_line : ℕ → Unit → Answer
list_line n u = answer n (ready u) (list_lines (listed u.state))

unfoldable pub act_line : ℕ → Unit → List ℕ → Request → Answer
act_line n u name q =
    let a : actions.Acted =
    actions.action_of u.state u.build_id (actions.lent u.arena u.undo u.ids)
    (actions.request name q.action q.time) in
    answer n (ready (unit a.state u.text a.after.arena a.after.undo a.after.ids u.build_id))
    (verdict_line a.answer)

-- report and tick change the state alone
unfoldable pub called_line : ℕ → Unit → Called → Answer
called_line n u c =
    answer n (ready (unit c.state u.text u.arena u.undo u.ids u.build_id)) (verdict_line c.verdict)

unfoldable pub work_line : ℕ → Unit → Answer
work_line n u =
    let w : work.Worked = work.work_of u.state (work.lent u.text u.undo) in
    answer n (ready (unit w.state w.after.text u.arena w.after.undo u.ids u.build_id))
    (verdict_line w.answer)

-- an upload at its payload's `end`
unfoldable pub upload_line : ℕ → Unit → Pending → Answer
upload_line n u p =
    let x : upload.Uploaded =
    upload.upload_of u.state (upload.lent u.arena u.ids) (upload.request p.name p.list p.file) in
    answer n (ready (unit x.state u.text x.after.arena u.undo x.after.ids u.build_id))
    (verdict_line x.answer)

-- ---- a line as a command

-- before a `start` has succeeded
unfoldable pub off_line : ℕ → List ℕ → Option Command → Answer
off_line n line (Some (Start h)) = start_line n off h (id_in line)
off_line n line (Some Upload) = bad n off
off_line n line (Some Get) = bad n off
off_line n line (Some Listing) = bad n off
off_line n line (Some (Act q)) = bad n off
off_line n line (Some (Report cpu)) = bad n off
off_line n line (Some Tick) = bad n off
off_line n line (Some Work) = bad n off
off_line n line None = bad n off

-- after it
unfoldable pub ready_line : ℕ → Unit → List ℕ → Option Command → Answer
ready_line n u line (Some (Start h)) = start_line n (ready u) h (id_in line)
ready_line n u line (Some Upload) = answer n (payload u (pending (name_in line) (list_in line) [])) []
ready_line n u line (Some Get) = get_line n u (name_in line)
ready_line n u line (Some Listing) = list_line n u
ready_line n u line (Some (Act q)) = act_line n u (name_in line) q
ready_line n u line (Some (Report cpu)) = called_line n u (report_of u.state cpu)
ready_line n u line (Some Tick) = called_line n u (tick_of u.state)
ready_line n u line (Some Work) = work_line n u
ready_line n u line None = bad n (ready u)

-- the command of a line that is not too long
unfoldable pub command_in : List ℕ → Option Command
command_in line = cond (nat_le (length line) line_max) (command_of line) None

-- ---- a line of a payload

-- "closed by a line `end`"
unfoldable pub is_end : List ℕ → Bool
is_end line = equal line (ascii "end")

-- a payload's bytes are kept up to one more than a file may have: the loader refuses it then
abbrev pub kept_max : ℕ
kept_max = file_max + 1

unfoldable pub payload_line : ℕ → Unit → Pending → List ℕ → Answer
payload_line n u p line =
    cond (is_end line) (upload_line n u p)
    (cond (nat_le (length line) line_max && is_hex line)
    (answer n (payload u (pending p.name p.list (take kept_max (p.file ++ hex_bytes line)))) [])
    (bad n (dropped u)))

-- "drops that upload up to its `end`, with no further answer"
unfoldable pub dropped_line : ℕ → Unit → List ℕ → Answer
dropped_line n u line = answer n (cond (is_end line) (ready u) (dropped u)) []

-- ---- any line

-- "counted from 1"
unfoldable pub number_after : ℕ → ℕ
number_after lines = (lines + 1) % 2 ^ 64

abbrev pub line_in : ℕ → Mode → List ℕ → Answer
line_in n off line = off_line n line (command_in line)
line_in n (ready u) line = ready_line n u line (command_in line)
line_in n (payload u p) line = payload_line n u p line
line_in n (dropped u) line = dropped_line n u line

unfoldable pub line_of : Session → List ℕ → Answer
line_of s line = line_in (number_after s.lines) s.mode line
