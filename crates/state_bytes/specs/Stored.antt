-- The state as the bytes of the records buffer, and the state that such bytes hold.
use Rattle.std.specs.Prelude.{ℕ, ◌+◌, ◌≡◌, Bool, true, false, cond, ◌&&◌, List, [], ◌∷◌, ◌++◌, map, eqb, length}
use Rattle.words.specs.Number.{le_at, le_bytes}
use Rattle.words.specs.Order.{equal}
use Rattle.words.specs.Splice.{part}
use Rattle.records.specs.Limits.{name_max, id_max, records_max}
use Rattle.records.specs.declared.payload.BuildId.{BuildId}
use Rattle.records.specs.declared.payload.Edit.{Edit}
use Rattle.records.specs.declared.payload.EditKind.{EditKind}
use Rattle.records.specs.declared.payload.EditKind.TheVariants.{Jump, Fill}
use Rattle.records.specs.declared.payload.Payload.{Payload}
use Rattle.machine.specs.declared.processor.Processor.TheVariants.{X86_64}
use Rattle.memory.specs.Config.{cpus_max}
use Rattle.memory.specs.Memory.{slot_count}
use Rattle.memory.specs.declared.config.Config.{Config}
use Rattle.state.specs.declared.state.Job.{Job}
use Rattle.state.specs.declared.state.State.{State}
use Rattle.state_bytes.specs.Fields.{chained, rows_at}
use Rattle.state_bytes.specs.Layout.{edit_size, dependency_place, edit_count_place, edits_place, payload_size, count_place, job_place, stack_place, payloads_place, records_size}

-- ---- an edit

-- its kind: 1 a jump, 0 no-ops, which have no displacement
abbrev pub kind_number : EditKind → ℕ
kind_number (Jump d) = 1
kind_number Fill = 0

abbrev pub displacement_of : EditKind → ℕ
displacement_of (Jump d) = d
displacement_of Fill = 0

abbrev pub kind_from : ℕ → ℕ → EditKind
kind_from n d = cond (eqb n 1) (Jump d) Fill

abbrev pub edit_fields : Edit → List (List ℕ)
edit_fields e =
    le_bytes 4 e.offset ∷ le_bytes 4 e.length ∷ le_bytes 4 (kind_number e.kind) ∷ le_bytes 8 (displacement_of e.kind) ∷ []

unfoldable pub stored_edit : Edit → List ℕ
stored_edit e = chained (edit_fields e)

unfoldable pub edit_at : List ℕ → ℕ → Edit
edit_at b at =
    record { offset = le_at 4 b at; length = le_at 4 b (at + 4); kind = kind_from (le_at 4 b (at + 8)) (le_at 8 b (at + 12)) }

-- ---- a payload

-- its numbers, but for that of its edits
abbrev pub number_fields : Payload → List (List ℕ)
number_fields p =
    le_bytes 4 p.name_length
    ∷ le_bytes 4 p.slot
    ∷ le_bytes 4 p.status
    ∷ le_bytes 4 p.result
    ∷ le_bytes 4 p.id_length
    ∷ le_bytes 4 p.dependency.length
    ∷ []

abbrev pub payload_fields : Payload → List (List ℕ)
payload_fields p =
    p.name
    ∷ (number_fields p ++ (p.dependency.bytes ∷ le_bytes 4 p.edit_count ∷ chained (map stored_edit p.edits) ∷ []))

unfoldable pub payload_bytes : Payload → List ℕ
payload_bytes p = chained (payload_fields p)

abbrev pub dependency_at : List ℕ → ℕ → BuildId
dependency_at b at = record { bytes = part b (at + dependency_place) id_max; length = le_at 4 b (at + (name_max + 20)) }

abbrev pub edits_at : List ℕ → ℕ → List Edit
edits_at = rows_at edit_at edit_size records_max

unfoldable pub payload_at : List ℕ → ℕ → Payload
payload_at b at =
    record {
      name = part b at name_max;
      name_length = le_at 4 b (at + name_max);
      slot = le_at 4 b (at + (name_max + 4));
      status = le_at 4 b (at + (name_max + 8));
      result = le_at 4 b (at + (name_max + 12));
      id_length = le_at 4 b (at + (name_max + 16));
      dependency = dependency_at b at;
      edits = edits_at b (at + edits_place);
      edit_count = le_at 4 b (at + edit_count_place);
    }

-- ---- start-up's numbers

abbrev pub config_fields : Config → List (List ℕ)
config_fields c =
    le_bytes 8 c.text
    ∷ le_bytes 8 c.text_length
    ∷ le_bytes 8 c.arena
    ∷ le_bytes 4 c.id_length
    ∷ le_bytes 4 c.cpus
    ∷ []

unfoldable pub config_bytes : Config → List ℕ
config_bytes c = chained (config_fields c)

unfoldable pub config_at : List ℕ → ℕ → Config
config_at b at =
    record {
      processor = X86_64;
      text = le_at 8 b at;
      text_length = le_at 8 b (at + 8);
      arena = le_at 8 b (at + 16);
      id_length = le_at 4 b (at + 24);
      cpus = le_at 4 b (at + 28);
    }

-- ---- the job

-- a CPU's byte: 1 held, 0 not
abbrev pub flag_byte : Bool → ℕ
flag_byte true = 1
flag_byte false = 0

abbrev pub is_set : ℕ → Bool
is_set byte = eqb byte 1

abbrev pub job_fields : Job → List (List ℕ)
job_fields j =
    le_bytes 4 j.action
    ∷ le_bytes 4 j.slot
    ∷ le_bytes 4 j.time
    ∷ le_bytes 4 j.steps
    ∷ map flag_byte j.held
    ∷ []

unfoldable pub job_bytes : Job → List ℕ
job_bytes j = chained (job_fields j)

unfoldable pub held_at : List ℕ → ℕ → List Bool
held_at b at = map is_set (part b at cpus_max)

unfoldable pub job_at : List ℕ → ℕ → Job
job_at b at =
    record {
      action = le_at 4 b at;
      slot = le_at 4 b (at + 4);
      held = held_at b (at + 16);
      time = le_at 4 b (at + 8);
      steps = le_at 4 b (at + 12);
    }

-- ---- the state

-- the payloads loaded and applied, in 8 bytes each, and the version
abbrev pub count_fields : State → List (List ℕ)
count_fields s = le_bytes 8 s.count ∷ le_bytes 8 s.depth ∷ le_bytes 4 s.version ∷ []

unfoldable pub count_bytes : State → List ℕ
count_bytes s = chained (count_fields s)

abbrev pub state_fields : State → List (List ℕ)
state_fields s =
    config_bytes s.config
    ∷ count_bytes s
    ∷ job_bytes s.job
    ∷ chained (map (le_bytes 4) s.stack)
    ∷ chained (map payload_bytes s.payloads)
    ∷ []

-- the records buffer of a state
unfoldable pub bytes_of : State → List ℕ
bytes_of s = chained (state_fields s)

abbrev pub stack_at : List ℕ → ℕ → List ℕ
stack_at = rows_at (le_at 4) 4 slot_count

abbrev pub payloads_at : List ℕ → ℕ → List Payload
payloads_at = rows_at payload_at payload_size slot_count

-- the state that a records buffer holds
unfoldable pub state_in : List ℕ → State
state_in b =
    record {
      config = config_at b 0;
      version = le_at 4 b (count_place + 16);
      count = le_at 8 b count_place;
      payloads = payloads_at b payloads_place;
      depth = le_at 8 b (count_place + 8);
      stack = stack_at b stack_place;
      job = job_at b job_place;
    }

-- bytes are a state's where they are those of the state that they hold
unfoldable pub is_state : List ℕ → Bool
is_state b = eqb (length b) records_size && equal (bytes_of (state_in b)) b

-- the buffer holds the state, whole: its bytes are the state's, and read back they give it
pub record HoldsState (s : State) (b : List ℕ) : Type 0 where
  pub bytes : b ≡ bytes_of s
  pub read : state_in b ≡ s
  pub whole : is_state b ≡ true
