-- What the loader keeps between two calls.
use Rattle.records.specs.Refusal.{Verdict}
use Rattle.std.specs.Prelude.{ℕ, Bool, false, not, List, eqb, ℤ, pos, neg_ℤ, take, replicate}
use Rattle.words.specs.Address.{stored}
use Rattle.records.specs.Payload.{empty}
use Rattle.records.specs.declared.payload.Payload.{Payload}
use Rattle.memory.specs.Config.{no_config, cpus_max}
use Rattle.memory.specs.Memory.{slot_count}
use Rattle.memory.specs.declared.config.Config.{Config}
use Rattle.state.specs.declared.state.Called.{Called}
use Rattle.state.specs.declared.state.Job.{Job}
use Rattle.state.specs.declared.state.State.{State}

-- "Actions: 1 unload, 2 revert, 3 apply, 4 replace."
abbrev pub unload : ℕ
unload = 1

abbrev pub revert : ℕ
revert = 2

abbrev pub apply : ℕ
apply = 3

abbrev pub replace : ℕ
replace = 4

-- "Status: 1 checked, 2 applied."
abbrev pub checked : ℕ
checked = 1

abbrev pub applied : ℕ
applied = 2

-- "The last result starts at 0." It is kept as its magnitude: here is the result, and the 32-bit number that tells it
abbrev pub result_of : ℕ → ℤ
result_of n = neg_ℤ (pos n)

abbrev pub result_word : ℕ → ℕ
result_word n = stored 32 (result_of n)

-- no job: its action is 0
abbrev pub no_job : Job
no_job = record { action = 0; slot = 0; held = replicate cpus_max false; time = 0; steps = 0 }

abbrev pub is_standing : Job → Bool
is_standing j = not (eqb j.action 0)

-- with nothing loaded: "Version starts at 0"
unfoldable pub state_with : Config → State
state_with c =
    record {
      config = c;
      version = 0;
      count = 0;
      payloads = replicate slot_count empty;
      depth = 0;
      stack = replicate slot_count 0;
      job = no_job;
    }

-- what a refused start-up returns: its numbers are out of their ranges
abbrev pub no_state : State
no_state = state_with no_config

-- ---- a record with one part replaced

abbrev pub with_result : ℕ → Payload → Payload
with_result n p =
    record {
      name = p.name;
      name_length = p.name_length;
      slot = p.slot;
      status = p.status;
      result = n;
      id_length = p.id_length;
      dependency = p.dependency;
      edits = p.edits;
      edit_count = p.edit_count;
    }

abbrev pub with_status : ℕ → Payload → Payload
with_status n p =
    record {
      name = p.name;
      name_length = p.name_length;
      slot = p.slot;
      status = n;
      result = p.result;
      id_length = p.id_length;
      dependency = p.dependency;
      edits = p.edits;
      edit_count = p.edit_count;
    }

abbrev pub with_payloads : List Payload → State → State
with_payloads ps s =
    record { config = s.config; version = s.version; count = s.count; payloads = ps; depth = s.depth; stack = s.stack; job = s.job }

-- how many payloads are loaded, and the version of their list
abbrev pub with_count : ℕ → State → State
with_count n s =
    record { config = s.config; version = s.version; count = n; payloads = s.payloads; depth = s.depth; stack = s.stack; job = s.job }

abbrev pub with_version : ℕ → State → State
with_version n s =
    record { config = s.config; version = n; count = s.count; payloads = s.payloads; depth = s.depth; stack = s.stack; job = s.job }

-- the applied payloads: how many, and their slots
abbrev pub with_stack : ℕ → List ℕ → State → State
with_stack depth stack s =
    record {
      config = s.config;
      version = s.version;
      count = s.count;
      payloads = s.payloads;
      depth = depth;
      stack = stack;
      job = s.job;
    }

abbrev pub with_job : Job → State → State
with_job j s =
    record { config = s.config; version = s.version; count = s.count; payloads = s.payloads; depth = s.depth; stack = s.stack; job = j }

-- what a call answers, with the state after it
abbrev pub called : Verdict → State → Called
called verdict state = record { verdict = verdict; state = state }

-- ---- what it holds

-- "The list is in upload order."
abbrev pub loaded : State → List Payload
loaded s = take s.count s.payloads

-- the slots of the applied payloads, the first applied first
abbrev pub stack_of : State → List ℕ
stack_of s = take s.depth s.stack

-- a payload's name, without the zeros after its end
abbrev pub name_of : Payload → List ℕ
name_of p = take p.name_length p.name
