-- Document 01: "Later calls given .. records with numbers outside the ranges named here, get 22." Every number but the version and the results has one.
use Rattle.std.specs.Prelude.{ℕ, ◌+◌, Bool, true, cond, not, ◌&&◌, ◌||◌, leb, ltb, eqb, take}
use Rattle.words.specs.Find.{every}
use Rattle.records.specs.Limits.{id_min, id_max, records_max, name_max}
use Rattle.records.specs.Name.{is_name}
use Rattle.records.specs.declared.payload.Edit.{Edit}
use Rattle.records.specs.declared.payload.EditKind.{EditKind}
use Rattle.records.specs.declared.payload.EditKind.TheVariants.{Jump, Fill}
use Rattle.records.specs.declared.payload.Payload.{Payload}
use Rattle.machine.specs.Host.{machine_of}
use Rattle.machine.specs.Machine.{Machine}
use Rattle.memory.specs.Config.{config_ok}
use Rattle.memory.specs.Memory.{slot_count}
use Rattle.memory.specs.declared.config.Config.{Config}
use Rattle.state.specs.Find.{is_taken}
use Rattle.state.specs.State.{revert, apply, replace, checked, applied, is_standing, loaded, stack_of, name_of}
use Rattle.state.specs.Steps.{step_count}
use Rattle.state.specs.declared.state.State.{State}

-- an edit of this kind may have this many bytes
abbrev pub is_edit_length : Machine → EditKind → ℕ → Bool
is_edit_length m (Jump d) n = eqb n m.jump_length
is_edit_length m Fill n = m.fill_size n

-- an edit has as many bytes as its kind lets it, and lies in the text
unfoldable pub edit_in_range : Config → Edit → Bool
edit_in_range c e = is_edit_length (machine_of c.processor) e.kind e.length && leb (e.offset + e.length) c.text_length

-- "Names have 2 to 128 bytes, ..", "A name is kept in 128 bytes"
unfoldable pub name_in_range : Payload → Bool
name_in_range p = leb p.name_length name_max && is_name (name_of p)

-- "id 1 to 64 bytes" (W1)
unfoldable pub ids_in_range : Payload → Bool
ids_in_range p =
    leb id_min p.id_length
    && leb p.id_length id_max
    && leb id_min p.dependency.length
    && leb p.dependency.length id_max

-- "32 function records" (W1)
unfoldable pub edits_in_range : Config → Payload → Bool
edits_in_range c p =
    leb 1 p.edit_count
    && leb p.edit_count records_max
    && every (edit_in_range c) (take p.edit_count p.edits)

-- "Status: 1 checked, 2 applied."
unfoldable pub is_status : ℕ → Bool
is_status n = eqb n checked || eqb n applied

-- "slot s (0 to 7)"
unfoldable pub payload_in_range : Config → Payload → Bool
payload_in_range c p =
    ltb p.slot slot_count
    && is_status p.status
    && name_in_range p
    && ids_in_range p
    && edits_in_range c p

-- "Actions: 1 unload, 2 revert, 3 apply, 4 replace. Unload is done at once": a job is one of the others
unfoldable pub is_job_action : ℕ → Bool
is_job_action n = leb revert n && leb n replace

-- a revert has a payload to take off the stack, and an apply has room on it
unfoldable pub stack_fits : State → Bool
stack_fits s =
    cond (eqb s.job.action revert) (leb 1 s.depth)
    (cond (eqb s.job.action apply) (ltb s.depth s.count)
    true)

-- the job's payload is loaded, and it has time and steps left
unfoldable pub job_in_range : State → Bool
job_in_range s =
    is_job_action s.job.action
    && is_taken s s.job.slot
    && stack_fits s
    && leb 1 s.job.time
    && ltb s.job.steps (step_count s)

-- a number that names a payload, in the stack or the job, names one that is loaded
unfoldable pub in_range : State → Bool
in_range s =
    config_ok s.config
    && leb s.count slot_count
    && every (payload_in_range s.config) (loaded s)
    && leb s.depth s.count
    && every (is_taken s) (stack_of s)
    && (not (is_standing s.job) || job_in_range s)
