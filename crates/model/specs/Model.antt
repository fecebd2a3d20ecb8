-- The reference model: document 01's ledger. "It is fed start-up's arguments and each call's names, bytes and numbers, nothing of the loader's."
use Rattle.std.specs.Prelude.{ℕ, ◌+◌, Bool, List, [], length, Option, None}
use Rattle.records.specs.declared.payload.Edit.{Edit}
use Rattle.machine.specs.Host.{machine_of}
use Rattle.machine.specs.Machine.{Machine}
use Rattle.machine.specs.declared.host.Host.{Host}
use Rattle.machine.specs.declared.processor.Processor.TheVariants.{X86_64}
use Rattle.memory.specs.Memory.{slot_at}

-- "It keeps start-up's arguments,"
pub record Start : Type 0 where
  pub text : List ℕ
  pub text_base : ℕ
  pub arena_base : ℕ
  pub build_id : List ℕ
  pub cpus : ℕ

-- "payloads .. (name, slot, status, result; id, dependency, relocated placed bytes and edits as read at upload)"; image has zeros after the placed bytes,
-- up to the slot's end; result is the last result's magnitude, as every result is 0 or a negated number
pub record Loaded : Type 0 where
  pub name : List ℕ
  pub slot : ℕ
  pub status : ℕ
  pub result : ℕ
  pub id : List ℕ
  pub dependency : List ℕ
  pub image : List ℕ
  pub edits : List Edit

-- an edit that is laid: of which payload, by its slot, and of which record
pub record Laid : Type 0 where
  pub slot : ℕ
  pub number : ℕ
  pub edit : Edit

-- "and the job (action, payload, CPUs held, time, steps)": the payload by its slot, and for each CPU whether it is held
pub record Job : Type 0 where
  pub action : ℕ
  pub slot : ℕ
  pub held : List Bool
  pub time : ℕ
  pub steps : ℕ

-- "version, payloads in upload order .., the applied ones as a stack, the edits laid, in order, and the job"; stack (of slots) and laid edits have the newest first
pub record Model : Type 0 where
  pub start : Start
  pub version : ℕ
  pub payloads : List Loaded
  pub stack : List ℕ
  pub laid : List Laid
  pub job : Option Job

-- "At first nothing is loaded."
abbrev pub opened : Start → Model
opened a = record { start = a; version = 0; payloads = []; stack = []; laid = []; job = None }

-- no payload
abbrev pub no_payload : Loaded
no_payload =
    record { name = []; slot = 0; status = 0; result = 0; id = []; dependency = []; image = []; edits = [] }

-- the unit's processor
abbrev pub machine : Machine
machine = machine_of X86_64

-- what a payload in this slot is prepared for
abbrev pub host_for : Start → ℕ → Host
host_for a slot =
    record { processor = X86_64; text = a.text_base; text_length = length a.text; slot = a.arena_base + slot_at slot }
