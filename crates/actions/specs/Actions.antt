-- Document 01's actions: unload at once; revert, apply and replace become the one job.
use Rattle.std.specs.Prelude.{ℕ, suc, ◌+◌, ◌-◌, ◌%◌, ◌^◌, Bool, true, cond, not, ◌&&◌, ◌||◌, List, [], ◌∷◌, ◌++◌, length, take, drop, replicate, ◌==◌, nat_le, Some, None, Option, Result, Ok, Err}
use Rattle.words.specs.Name.{is_found}
use Rattle.words.specs.Order.{equal}
use Rattle.words.specs.Splice.{splice}
use Rattle.records.specs.Limits.{placed_max, id_max}
use Rattle.records.specs.Name.{is_name}
use Rattle.records.specs.Payload.{empty}
use Rattle.records.specs.Refusal.{number_of, Verdict}
use Rattle.records.specs.Verdict.{must, ◌then◌, decide}
use Rattle.records.specs.declared.payload.Payload.{Payload}
use Rattle.records.specs.declared.refusal.Place.TheVariants.{Nowhere}
use Rattle.records.specs.declared.refusal.Refusal.{Refusal}
use Rattle.memory.specs.Memory.{slot_at, arena_size, undo_at, undo_size, slot_undo_size, id_at, ids_size}
use Rattle.state.specs.Change.{changed_found}
use Rattle.state.specs.Find.{with_name, payload_found}
use Rattle.state.specs.State.{
  unload,
  revert,
  apply,
  replace,
  checked,
  applied,
  no_job,
  is_standing,
  with_result,
  with_payloads,
  with_count,
  with_version,
  with_job,
}
use Rattle.state.specs.declared.state.Called.{Called}
use Rattle.state.specs.declared.state.Job.{Job}
use Rattle.state.specs.declared.state.State.{State}
use Rattle.ranges.specs.Ranges.{in_range}
use Rattle.queries.specs.TopId.{top_slot, top_id}

-- what an action is lent besides the state: arena and both stores, which it may write, and the hypervisor's build-id
pub record Lent : Type 0 where
  pub arena : List ℕ
  pub undo : List ℕ
  pub ids : List ℕ

abbrev pub lent : List ℕ → List ℕ → List ℕ → Lent
lent arena undo ids = record { arena = arena; undo = undo; ids = ids }

-- the request: the payload's name, the command, and the time for a job
pub record Request : Type 0 where
  pub name : List ℕ
  pub command : ℕ
  pub time : ℕ

abbrev pub request : List ℕ → ℕ → ℕ → Request
request name command time = record { name = name; command = command; time = time }

-- ---- the rules, in their order: "lent sizes, name, 2, command (22), 16, status (22), 33"

-- the numbers of the state and the lent sizes are right
unfoldable pub action_sizes_ok : State → ℕ → ℕ → ℕ → ℕ → Bool
action_sizes_ok s arena undo ids build_id =
    in_range s
    && arena == arena_size
    && undo == undo_size
    && ids == ids_size
    && build_id == s.config.id_length

abbrev pub is_command : ℕ → Bool
is_command n = nat_le unload n && nat_le n replace

-- the payload that is named
abbrev pub target : State → List ℕ → Payload
target s name = payload_found s (with_name s name)

-- "a job stands: actions 2 to 4, or unload of its payload"
unfoldable pub is_busy : State → ℕ → Payload → Bool
is_busy s command p = is_standing s.job && (not (command == unload) || s.job.slot == p.slot)

-- name to 16: these set no result
unfoldable pub target_rules : State → List ℕ → ℕ → Verdict
target_rules s name command =
    must (is_name name) 22 Nowhere
    then must (is_found (with_name s name)) 2 Nowhere
    then must (is_command command) 22 Nowhere
    then must (not (is_busy s command (target s name))) 16 Nowhere

-- where the payload stands in the list
abbrev pub place_of : Option ℕ → ℕ
place_of (Some i) = i
place_of None = 0

-- the payload's place, where the rules pass
unfoldable pub target_of : State → List ℕ → ℕ → Result ℕ Refusal
target_of s name command = decide Err (Ok (place_of (with_name s name))) (target_rules s name command)

unfoldable pub request_rules : State → List ℕ → Lent → Request → Verdict
request_rules s build_id l q =
    must (action_sizes_ok s (length l.arena) (length l.undo) (length l.ids) (length build_id)) 22 Nowhere
    then target_rules s q.name q.command

-- "Revert needs status 2, ..; the others need status 1."
abbrev pub status_for : ℕ → ℕ
status_for command = cond (command == revert) applied checked

-- a payload's dependency
abbrev pub dependency_of : Payload → List ℕ
dependency_of p = take p.dependency.length p.dependency.bytes

-- it was applied last
abbrev pub is_top : State → Payload → Bool
is_top s p = nat_le 1 s.depth && top_slot s == p.slot

-- "then the top"; "Apply needs the payload's dependency to equal that id (length and bytes). Replace needs the hypervisor's id."
unfoldable pub base_ok : State → List ℕ → List ℕ → ℕ → Payload → Bool
base_ok s build_id ids command p =
    cond (command == revert) (is_top s p)
    (cond (command == apply) (equal (dependency_of p) (top_id s build_id ids))
    (cond (command == replace) (equal (dependency_of p) build_id)
    true))

-- "The last two set the result to the negated number."
unfoldable pub condition_rules : State → List ℕ → List ℕ → ℕ → Payload → Verdict
condition_rules s build_id ids command p =
    must (p.status == status_for command) 22 Nowhere
    then must (base_ok s build_id ids command p) 33 Nowhere

-- ---- what an accepted action does

-- "(32 bits, 0 means 30)"
abbrev pub time_given : ℕ → ℕ
time_given time = cond (time == 0) 30 time

abbrev pub job_for : ℕ → ℕ → ℕ → Job
job_for command slot time =
    record { action = command; slot = slot; held = no_job.held; time = time_given time; steps = 0 }

-- "The others become the one job; that payload's result is -11."
unfoldable pub job_begun : State → Request → State
job_begun s q =
    with_job (job_for q.command (target s q.name).slot q.time) (changed_found (with_result 11) s (with_name s q.name))

-- the list without the payload at this place; the record behind the last is empty
unfoldable pub removed_at : ℕ → List Payload → List Payload
removed_at i ps = take i ps ++ drop (suc i) ps ++ (empty ∷ [])

-- "Version .. grows by 1 modulo 2^32 at each accepted upload or unload"
abbrev pub unloaded_at : State → Option ℕ → State
unloaded_at s (Some i) =
    with_version ((s.version + 1) % 2 ^ 32) (with_count (s.count - 1) (with_payloads (removed_at i s.payloads) s))
unloaded_at s None = s

-- "Unload is done at once and zeroes the slot and its store entries."
unfoldable pub cleared : ℕ → Lent → Lent
cleared slot l =
    lent (splice l.arena (slot_at slot) (replicate placed_max 0)) (splice l.undo (undo_at slot 0) (replicate slot_undo_size 0))
    (splice l.ids (id_at slot) (replicate id_max 0))

-- ---- the call: the answer, the state, and what arena and stores then hold

pub record Acted : Type 0 where
  pub answer : Verdict
  pub state : State
  pub after : Lent

abbrev pub acted : Called → Lent → Acted
acted r after = record { answer = r.verdict; state = r.state; after = after }

-- an action that may be done
abbrev pub action_done : State → Lent → Request → Acted
action_done s l q =
    cond (q.command == unload)
    (record { answer = Ok tt; state = unloaded_at s (with_name s q.name); after = cleared (target s q.name).slot l })
    (record { answer = Ok tt; state = job_begun s q; after = l })

-- an action on a payload that is loaded, where no job is in the way: a refusal sets its last result
unfoldable pub action_on : State → List ℕ → Lent → Request → Acted
action_on s build_id l q =
    decide
    (λ r.
    record {
      answer = Err r;
      state = changed_found (with_result (number_of r.reason)) s (with_name s q.name);
      after = l;
    })
    (action_done s l q)
    (condition_rules s build_id l.ids q.command (target s q.name))

unfoldable pub action_of : State → List ℕ → Lent → Request → Acted
action_of s build_id l q =
    decide (λ r. record { answer = Err r; state = s; after = l }) (action_on s build_id l q) (request_rules s build_id l q)
