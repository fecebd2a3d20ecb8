-- How the console's numbers, the loader's state and the buffers stand for a session.
use Rattle.std.specs.Prelude.{◌≡◌, ℕ, ◌+◌, ◌*◌, ◌≤◌, List, take}
use Rattle.memory.specs.Memory.{slot_count}
use Rattle.state.specs.declared.state.State.{State}
use Rattle.script.specs.Command.{size_most}
use Rattle.answers.specs.Written.{written, writing, line_room}
use Rattle.interpreter.specs.Lines.{Answer, line_max, kept_max}
use Rattle.interpreter.specs.Session.{Unit, unit, Pending, pending, Mode, off, ready, payload, dropped, Session, session}
use Rattle.interpreter.specs.declared.buffers.Gathered.{Gathered}
use Rattle.interpreter.specs.declared.buffers.Memory.{Memory}
use Rattle.interpreter.specs.declared.console.Console.{Console}
use Rattle.interpreter.specs.declared.console.Mode as declared
use Rattle.interpreter.specs.declared.console.Stepped.{Stepped}
use Rattle.interpreter.specs.declared.console.Mode.TheVariants.{Off, Ready, Payload, Dropped}

-- of text, id, name, list and file the first bytes count, as many as the console's numbers say
abbrev pub unit_in : Console → State → Memory → Unit
unit_in c s m = unit s (take c.text m.text) m.arena m.undo m.ids (take c.id m.id)

abbrev pub pending_in : Console → Gathered → Pending
pending_in c g = pending (take c.name g.name) (take c.list g.list) (take c.file g.file)

abbrev pub mode_in : declared.Mode → Unit → Pending → Mode
mode_in Off u p = off
mode_in Ready u p = ready u
mode_in Payload u p = payload u p
mode_in Dropped u p = dropped u

abbrev pub standing : Console → State → Memory → Gathered → Session
standing c s m g = session c.lines (mode_in c.mode (unit_in c s m) (pending_in c g))

-- a line has room for its name with a zero
abbrev pub name_room : ℕ
name_room = line_max + 1

-- an answer has a line for each payload and one more at most
abbrev pub out_room : ℕ
out_room = line_room * (slot_count + 1)

-- what counts lies within the buffers
pub record Within (c : Console) : Type 0 where
  pub text : c.text ≤ size_most
  pub id : c.id ≤ line_max
  pub name : c.name ≤ name_room
  pub list : c.list ≤ line_max
  pub file : c.file ≤ kept_max

-- all that a line gives: the session and what is written are the answer's, and what counts lies within the buffers
pub record Gives (a : Answer) (r : Stepped) (m : Memory) (g : Gathered) (before after : List ℕ) : Type 0 where
  pub session : standing r.console r.state m g ≡ a.session
  pub out : written after r.written ≡ writing before 0 a.out
  pub within : Within r.console

-- before the first line
abbrev pub at_first : Console
at_first = record { lines = 0; mode = Off; text = 0; id = 0; name = 0; list = 0; file = 0 }
