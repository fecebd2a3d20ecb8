-- When the loader's state and the lent memory stand for the reference model.
use Rattle.std.specs.Prelude.{ℕ, ◌-◌, ◌≡◌, true, List, map, reverse, ◌++◌, length, take, replicate, Option, None, Some}
use Rattle.records.specs.Limits.{id_max, records_max}
use Rattle.records.specs.Payload.{kept_name, no_edit}
use Rattle.records.specs.declared.payload.Payload.{Payload}
use Rattle.machine.specs.declared.processor.Processor.TheVariants.{X86_64}
use Rattle.memory.specs.Config.{cpus_max, config_ok}
use Rattle.memory.specs.Memory.{slot_count}
use Rattle.memory.specs.declared.config.Config.{Config}
use Rattle.state.specs.State.{loaded, stack_of}
use Rattle.state.specs.declared.state.Job as state
use Rattle.state.specs.declared.state.State.{State}
use Rattle.model.specs.Memory.{text_of, undo_of, arena_of, ids_of, padded}
use Rattle.model.specs.Model.{Start, Loaded, Job, Model}

-- what passes from one call to the next: the state that was returned, and what the lent memory holds
pub record Loader : Type 0 where
  pub state : State
  pub text : List ℕ
  pub arena : List ℕ
  pub undo : List ℕ
  pub ids : List ℕ
  pub build_id : List ℕ

-- the numbers that are kept of start-up's arguments
abbrev pub config_of : Start → Config
config_of a =
    record {
      processor = X86_64;
      text = a.text_base;
      text_length = length a.text;
      arena = a.arena_base;
      id_length = length a.build_id;
      cpus = a.cpus;
    }

-- the record that is kept of a payload
unfoldable pub record_of : Loaded → Payload
record_of p =
    record {
      name = kept_name p.name;
      name_length = length p.name;
      slot = p.slot;
      status = p.status;
      result = p.result;
      id_length = length p.id;
      dependency = record { bytes = padded id_max p.dependency; length = length p.dependency };
      edits = p.edits ++ replicate (records_max - length p.edits) no_edit;
      edit_count = length p.edits;
    }

-- a job that stands
pub record JobStands (cpus : ℕ) (kept : state.Job) (j : Job) : Type 0 where
  pub action : kept.action ≡ j.action
  pub slot : kept.slot ≡ j.slot
  pub held : take cpus kept.held ≡ j.held
  pub time : kept.time ≡ j.time
  pub steps : kept.steps ≡ j.steps

-- its action is 0 where there is none
abbrev pub JobsStand : ℕ → state.Job → Option Job → Type 0
JobsStand cpus kept None = kept.action ≡ 0
JobsStand cpus kept (Some j) = JobStands cpus kept j

-- the state keeps what the model does
pub record StateStands (s : State) (l : Model) : Type 0 where
  pub config : s.config ≡ config_of l.start
  pub version : s.version ≡ l.version
  pub count : s.count ≡ length l.payloads
  pub payloads : loaded s ≡ map record_of l.payloads
  pub depth : s.depth ≡ length l.stack
  pub stack : reverse (stack_of s) ≡ l.stack
  pub job : JobsStand l.start.cpus s.job l.job
  -- the arrays have their lengths
  pub payloads_whole : length s.payloads ≡ slot_count
  pub stack_whole : length s.stack ≡ slot_count
  pub held_whole : length s.job.held ≡ cpus_max

-- and the memory is the model's
pub record Stands (u : Loader) (l : Model) : Type 0 where
  pub accepted : config_ok (config_of l.start) ≡ true
  pub state : StateStands u.state l
  pub text : u.text ≡ text_of l
  pub arena : u.arena ≡ arena_of l
  pub undo : u.undo ≡ undo_of l
  pub ids : u.ids ≡ ids_of l
  pub build_id : u.build_id ≡ l.start.build_id
