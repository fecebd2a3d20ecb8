-- The arrays of a state and of its payloads have their lengths, as owning one tells (`good`).
use Prim.Native.Nat.{ℕ, zero, suc, ◌≤◌, ◌<◌}
use mathlib.Core.Path.{◌≡◌}
use mathlib.Core.List.{List, [], ◌∷◌}
use native.Mathlib.Omega.{arith}
use lib.ListN.{length, get_or}
use lib.Seq.{length-take-le}
use mir.Val.{Val}
use denote.Array.{Array, each}
use denote.Laws.{Is}
use denote.Shadow.{shadow}
use denote.Struct.Declared.{row}
use denote.Builtin.{bool, u8, u32}
use denote.RattleType.{RattleType}
use Rattle.words.proofs.Splice.{get_d_default}
use Rattle.records.specs.Limits.{name_max, records_max, id_max}
use Rattle.records.specs.declared.payload.Payload.{Payload}
use Rattle.records.specs.Payload.{empty}
use Rattle.records.specs.contracts.payload.Edit as edit
use Rattle.records.specs.contracts.payload.Payload as payload
use Rattle.memory.specs.Config.{cpus_max}
use Rattle.memory.specs.Memory.{slot_count}
use Rattle.state.specs.Find.{payload_at}
use Rattle.state.specs.State.{name_of}
use Rattle.state.specs.declared.state.State.{State}
use Rattle.state.specs.contracts.state.State as state

-- an array that is owned: its length, and its elements, each owned
module _ (R : RattleType) where
  array-length : (n : ℕ) (l : List R.Denot) (vs : List Val) → Is (Array R n) l vs → length l ≡ n
  array-length n l vs g = g.1.0.1

  element :
      (l : List R.Denot) (us : List Val) → shadow (each R.Denot R.own_val l us) →
      (i : ℕ) (d : R.Denot) → i < length l → (vs : List Val) × Is R (get_or l i d) vs
  element [] us g i d h = absurd (omega arith)
  element (x ∷ l) [] g i d h = absurd g
  element (x ∷ l) (u ∷ us) g zero d h = (u ∷ [], g.0)
  element (x ∷ l) (u ∷ us) g (suc i) d h = element l us g.1 i d (omega arith)

pub record WholePayload (p : Payload) : Type 0 where
  pub name : length p.name ≡ name_max
  pub dependency : length p.dependency.bytes ≡ id_max
  pub edits : length p.edits ≡ records_max

pub whole-payload : (p : Payload) (vs : List Val) → Is (row payload.the_type) p vs → WholePayload p
whole-payload p vs g =
    let fields = g.1.1 in
    record {
      name = array-length u8 name_max p.name _ fields.0;
      dependency = array-length u8 id_max p.dependency.bytes _ fields.1.1.1.1.1.1.0.1.1.0;
      edits = array-length edit.the_row records_max p.edits _ fields.1.1.1.1.1.1.1.0;
    }

-- the bytes of a name
pub length-name : {p : Payload} → WholePayload p → p.name_length ≤ name_max → length (name_of p) ≡ p.name_length
length-name {p} w h = length-take-le p.name_length p.name (omega (arith, w.name))

pub record Whole (s : State) : Type 0 where
  pub payloads : length s.payloads ≡ slot_count
  pub each_payload : (i : ℕ) → i < slot_count → WholePayload (payload_at s i)
  pub stack : length s.stack ≡ slot_count
  pub held : length s.job.held ≡ cpus_max

pub whole : (s : State) (vs : List Val) → Is (row state.the_type) s vs → Whole s
whole s vs g =
    let fields = g.1.1 in
    let many = array-length payload.the_row slot_count s.payloads _ fields.1.1.1.0 in
    record {
      payloads = many;
      each_payload = λ i h.
          let one = element payload.the_row s.payloads _ fields.1.1.1.0.1.1 i empty (omega arith) in
          whole-payload (payload_at s i) one.0 one.1;
      stack = array-length u32 slot_count s.stack _ fields.1.1.1.1.1.0;
      held = array-length bool cpus_max s.job.held _ fields.1.1.1.1.1.1.0.1.1.1.1.0;
    }

-- what stands for a payload that is not there, where one is copied out of an array
abbrev pub no_copy : Payload
no_copy =
    record {
      name = [];
      name_length = 0;
      slot = 0;
      status = 0;
      result = 0;
      id_length = 0;
      dependency = record { bytes = []; length = 0 };
      edits = [];
      edit_count = 0;
    }

pub copied-payload : {s : State} → Whole s → (i : ℕ) → i < slot_count → get_or s.payloads i no_copy ≡ payload_at s i
copied-payload {s} w i h = get_d_default s.payloads i no_copy empty (omega (arith, w.payloads))
