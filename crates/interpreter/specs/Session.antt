-- W2: what the console keeps from one line to the next.
use Rattle.std.specs.Prelude.{ℕ, List}
use Rattle.state.specs.declared.state.State.{State}

-- the loader as `start` set it up: its state, and what it is lent
pub record Unit : Type 0 where
  pub state : State
  pub text : List ℕ
  pub arena : List ℕ
  pub undo : List ℕ
  pub ids : List ℕ
  pub build_id : List ℕ

abbrev pub unit : State → List ℕ → List ℕ → List ℕ → List ℕ → List ℕ → Unit
unit state text arena undo ids build_id =
    record { state = state; text = text; arena = arena; undo = undo; ids = ids; build_id = build_id }

-- an upload whose payload is being read: name and symbol list, and the payload so far
pub record Pending : Type 0 where
  pub name : List ℕ
  pub list : List ℕ
  pub file : List ℕ

abbrev pub pending : List ℕ → List ℕ → List ℕ → Pending
pending name list file = record { name = name; list = list; file = file }

pub data Mode : Type 0 where
  -- no `start` has succeeded
  off : Mode
  -- lines are commands
  ready : Unit → Mode
  -- lines are a payload's
  payload : Unit → Pending → Mode
  -- lines are those of a dropped payload
  dropped : Unit → Mode

-- the lines read so far, and how the next one is read
pub record Session : Type 0 where
  pub lines : ℕ
  pub mode : Mode

abbrev pub session : ℕ → Mode → Session
session lines mode = record { lines = lines; mode = mode }
