-- What `in_range` says, as facts.
use Prim.Native.Nat.{ℕ, ◌+◌, ◌≤◌, ◌<◌}
use mathlib.Core.Path.{◌≡◌}
use mathlib.Core.Bool.{true, not, ◌||◌}
use native.Mathlib.Omega.{arith}
use borrow.Author.Tests.{leb-true, ltb-true}
use lib.Dec.{leb, ltb}
use lib.ListN.{take, get_or}
use Rattle.words.specs.Find.{every}
use Rattle.words.proofs.Find.{every-taken}
use Rattle.words.proofs.Tests.{both, three, four, five, six}
use Rattle.records.specs.Limits.{id_min, id_max as id_limit, records_max, name_max}
use Rattle.records.specs.Name.{is_name}
use Rattle.records.specs.Payload.{no_edit, empty}
use Rattle.records.specs.declared.payload.Edit.{Edit}
use Rattle.records.specs.declared.payload.Payload.{Payload}
use Rattle.machine.specs.Host.{machine_of}
use Rattle.memory.specs.Config.{config_ok}
use Rattle.memory.specs.Memory.{slot_count}
use Rattle.memory.specs.declared.config.Config.{Config}
use Rattle.state.specs.Find.{is_taken, payload_at, payload_in}
use Rattle.state.specs.State.{revert, replace, is_standing, loaded, stack_of, name_of}
use Rattle.state.specs.Steps.{step_count}
use Rattle.state.specs.declared.state.State.{State}
use Rattle.state.proofs.Laws.{taken}
use Rattle.state.proofs.Whole.{WholePayload, Whole}
use Rattle.ranges.specs.Ranges.{
  is_edit_length,
  edit_in_range,
  name_in_range,
  ids_in_range,
  edits_in_range,
  is_status,
  payload_in_range,
  is_job_action,
  stack_fits,
  job_in_range,
  in_range,
}

-- ---- an edit

pub record EditInRange (c : Config) (e : Edit) : Type 0 where
  pub long : is_edit_length (machine_of c.processor) e.kind e.length ≡ true
  pub inside : e.offset + e.length ≤ c.text_length

pub edit-in-range : {c : Config} {e : Edit} → edit_in_range c e ≡ true → EditInRange c e
unfolding edit_in_range
edit-in-range {c} {e} h =
    let parts = both (is_edit_length (machine_of c.processor) e.kind e.length) (leb (e.offset + e.length) c.text_length) h in
    record { long = parts.0; inside = leb-true _ _ parts.1 }

-- ---- a payload

pub record PayloadInRange (c : Config) (p : Payload) : Type 0 where
  pub slot : p.slot < slot_count
  pub status : is_status p.status ≡ true
  pub named : p.name_length ≤ name_max
  pub name : is_name (name_of p) ≡ true
  pub id_some : id_min ≤ p.id_length
  pub id_max : p.id_length ≤ id_limit
  pub dependency_some : id_min ≤ p.dependency.length
  pub dependency_max : p.dependency.length ≤ id_limit
  pub edits_some : 1 ≤ p.edit_count
  pub edits_max : p.edit_count ≤ records_max
  pub edits : (r : ℕ) → r < p.edit_count → EditInRange c (get_or p.edits r no_edit)

pub payload-in-range : {c : Config} {p : Payload} → WholePayload p → payload_in_range c p ≡ true → PayloadInRange c p
unfolding payload_in_range name_in_range ids_in_range edits_in_range
payload-in-range {c} {p} w h =
    let parts =
    five (ltb p.slot slot_count) (is_status p.status) (name_in_range p) (ids_in_range p) (edits_in_range c p) h in
    let name = both (leb p.name_length name_max) (is_name (name_of p)) parts.2 in
    let ids =
    four (leb id_min p.id_length) (leb p.id_length id_limit) (leb id_min p.dependency.length) (leb p.dependency.length id_limit)
    parts.3 in
    let edits =
    three (leb 1 p.edit_count) (leb p.edit_count records_max) (every (edit_in_range c) (take p.edit_count p.edits)) parts.4 in
    let few : p.edit_count ≤ records_max = leb-true _ _ edits.1 in
    record {
      slot = ltb-true _ _ parts.0;
      status = parts.1;
      named = leb-true _ _ name.0;
      name = name.1;
      id_some = leb-true _ _ ids.0;
      id_max = leb-true _ _ ids.1;
      dependency_some = leb-true _ _ ids.2;
      dependency_max = leb-true _ _ ids.3;
      edits_some = leb-true _ _ edits.0;
      edits_max = few;
      edits = λ r g. edit-in-range (every-taken (edit_in_range c) p.edits p.edit_count (omega (arith, w.edits)) edits.2 r no_edit g);
    }

-- ---- a job that stands, and a state

pub record JobInRange (s : State) : Type 0 where
  pub action_low : revert ≤ s.job.action
  pub action_high : s.job.action ≤ replace
  pub loaded : is_taken s s.job.slot ≡ true
  pub fits : stack_fits s ≡ true
  pub timed : 1 ≤ s.job.time
  pub steps : s.job.steps < step_count s

pub job-in-range : {s : State} → job_in_range s ≡ true → JobInRange s
unfolding job_in_range is_job_action
job-in-range {s} h =
    let parts =
    five (is_job_action s.job.action) (is_taken s s.job.slot) (stack_fits s) (leb 1 s.job.time) (ltb s.job.steps (step_count s)) h in
    let action = both (leb revert s.job.action) (leb s.job.action replace) parts.0 in
    record {
      action_low = leb-true _ _ action.0;
      action_high = leb-true _ _ action.1;
      loaded = parts.1;
      fits = parts.2;
      timed = leb-true _ _ parts.3;
      steps = ltb-true _ _ parts.4;
    }

-- of a state in range, whether its arrays are whole or not
pub standing-in-range : {s : State} → in_range s ≡ true → is_standing s.job ≡ true → JobInRange s
unfolding in_range
standing-in-range {s} h standing =
    let parts =
    six (config_ok s.config) (leb s.count slot_count) (every (payload_in_range s.config) (loaded s)) (leb s.depth s.count)
    (every (is_taken s) (stack_of s)) (not (is_standing s.job) || job_in_range s) h in
    job-in-range (rw standing at parts.5)

pub record InRange (s : State) : Type 0 where
  pub config : config_ok s.config ≡ true
  pub few : s.count ≤ slot_count
  pub payloads : (i : ℕ) → i < s.count → PayloadInRange s.config (payload_at s i)
  pub shallow : s.depth ≤ s.count
  pub stack : (i : ℕ) → i < s.depth → is_taken s (get_or s.stack i 0) ≡ true
  pub job : is_standing s.job ≡ true → JobInRange s

pub in-range : {s : State} → Whole s → in_range s ≡ true → InRange s
unfolding in_range
in-range {s} w h =
    let parts =
    six (config_ok s.config) (leb s.count slot_count) (every (payload_in_range s.config) (loaded s)) (leb s.depth s.count)
    (every (is_taken s) (stack_of s)) (not (is_standing s.job) || job_in_range s) h in
    let few : s.count ≤ slot_count = leb-true _ _ parts.1 in
    let shallow : s.depth ≤ s.count = leb-true _ _ parts.3 in
    record {
      config = parts.0;
      few = few;
      payloads = λ i g.
          payload-in-range (w.each_payload i (omega arith))
          (every-taken (payload_in_range s.config) s.payloads s.count (omega (arith, w.payloads)) parts.2 i empty g);
      shallow = shallow;
      stack = λ i g. every-taken (is_taken s) s.stack s.depth (omega (arith, w.stack)) parts.4 i 0 g;
      job = standing-in-range h;
    }

-- the payload in a slot that is taken
pub taken-in-range :
    {s : State} → InRange s → (slot : ℕ) → is_taken s slot ≡ true →
    PayloadInRange s.config (payload_in s slot) × ((payload_in s slot).slot ≡ slot)
taken-in-range {s} r slot h =
    let t = taken s slot h in
    (rw t.held (r.payloads t.place t.counted), rw t.held t.slotted)
