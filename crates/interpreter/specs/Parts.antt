-- What the parts of a line give: the contracts of functions that only this crate calls.
use Rattle.std.specs.Prelude.{◌≡◌, ℕ, ◌≤◌, Bool, List, length, take, Ok, Err}
use Rattle.records.specs.declared.refusal.Refusal.{Refusal}
use Rattle.state.specs.declared.state.Called.{Called}
use Rattle.state.specs.declared.state.State.{State}
use Rattle.startup.specs.Start as start
use Rattle.upload.specs.Upload as upload
use Rattle.script.specs.declared.command.Host.{Host}
use Rattle.answers.specs.Answers.{verdict_line}
use Rattle.answers.specs.Written.{written, writing}
use Rattle.interpreter.specs.Lines.{fresh, start_line, number_after}
use Rattle.interpreter.specs.Session.{Pending}
use Rattle.interpreter.specs.Standing.{unit_in, mode_in, Within}
use Rattle.interpreter.specs.declared.buffers.Memory.{Memory}
use Rattle.interpreter.specs.declared.console.Console.{Console}
use Rattle.interpreter.specs.declared.console.Mode as declared
use Rattle.interpreter.specs.declared.console.Mode.TheVariants.{Ready, Payload}
use Rattle.interpreter.specs.declared.console.Stepped.{Stepped}

-- these bytes are written, and console and state are these
pub record Says (c : Console) (s : State) (bytes : List ℕ) (r : Stepped) (before after : List ℕ) : Type 0 where
  pub console : r.console ≡ c
  pub state : r.state ≡ s
  pub out : written after r.written ≡ writing before 0 bytes

-- one line more
abbrev pub counted : Console → Console
counted c =
    record {
      lines = number_after c.lines;
      mode = c.mode;
      text = c.text;
      id = c.id;
      name = c.name;
      list = c.list;
      file = c.file;
    }

abbrev pub with_mode : Console → declared.Mode → Console
with_mode c mode =
    record { lines = c.lines; mode = mode; text = c.text; id = c.id; name = c.name; list = c.list; file = c.file }

abbrev pub stepped : Console → State → ℕ → Stepped
stepped console state written = record { console = console; state = state; written = written }

-- the first n bytes of a buffer are these
pub record Holds (buffer : List ℕ) (n : ℕ) (bytes : List ℕ) : Type 0 where
  pub room : n ≤ length buffer
  pub same : take n buffer ≡ bytes

-- ---- start-up

-- arena and stores have their sizes
abbrev pub stores : List ℕ → List ℕ → List ℕ → Bool
stores arena undo ids = start.stores_ok (length arena) (length undo) (length ids)

-- the answer is that on fresh memory; refused, nothing is changed; accepted, state and memory are the fresh ones
pub record SetsUp (h : Host) (id : List ℕ) (r : Called) (m m' : Memory) : Type 0 where
  pub answer : r.verdict ≡ (start.start_of (fresh h id)).answer
  pub refused : (q : Refusal) → r.verdict ≡ Err q → m' ≡ m
  pub accepted :
      r.verdict ≡ Ok tt →
      (r.state ≡ (start.start_of (fresh h id)).state)
      × (m'.arena ≡ (start.start_of (fresh h id)).arena)
      × (m'.undo ≡ (start.start_of (fresh h id)).undo)
      × (m'.ids ≡ (start.start_of (fresh h id)).ids)

-- the console after an accepted one
abbrev pub begun : Console → State → ℕ → ℕ → ℕ → Stepped
begun c s size id written =
    stepped (record { lines = c.lines; mode = Ready; text = size; id = id; name = 0; list = 0; file = 0 }) s written

-- refused, mode and memory are as they were; accepted, the unit is the new one
pub record Starts (c : Console) (s : State) (h : Host) (id : List ℕ) (m : Memory) (r : Stepped) (m' : Memory) (from to : List ℕ) : Type 0 where
  pub lines : r.console.lines ≡ c.lines
  pub mode :
      (p : Pending) → mode_in r.console.mode (unit_in r.console r.state m') p
      ≡ (start_line c.lines (mode_in c.mode (unit_in c s m) p) h id).session.mode
  pub out : written to r.written ≡ writing from 0 (verdict_line (start.start_of (fresh h id)).answer)
  pub within : Within r.console

-- ---- an upload

-- its payload follows
abbrev pub opened : Console → State → ℕ → ℕ → Stepped
opened c s name list =
    stepped (record { lines = c.lines; mode = Payload; text = c.text; id = c.id; name = name; list = list; file = 0 }) s 0

-- more of its payload
abbrev pub grown : Console → State → ℕ → Stepped
grown c s file =
    stepped
    (record { lines = c.lines; mode = c.mode; text = c.text; id = c.id; name = c.name; list = c.list; file = file }) s 0

-- its end; what the loader is not lent for it stays
pub record Ends (c : Console) (s : State) (p : Pending) (m : Memory) (r : Stepped) (m' : Memory) (from to : List ℕ) : Type 0 where
  pub console : r.console ≡ with_mode c Ready
  pub state : r.state ≡ (upload.upload_of s (upload.lent m.arena m.ids) (upload.request p.name p.list p.file)).state
  pub memory :
      upload.lent m'.arena m'.ids
      ≡ (upload.upload_of s (upload.lent m.arena m.ids) (upload.request p.name p.list p.file)).after
  pub kept : (m'.text ≡ m.text) × (m'.undo ≡ m.undo) × (m'.id ≡ m.id)
  pub out :
      written to r.written
      ≡ writing from 0
      (verdict_line (upload.upload_of s (upload.lent m.arena m.ids) (upload.request p.name p.list p.file)).answer)
