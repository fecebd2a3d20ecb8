-- What a loader with one payload changed, or with another job, stands for.
use Rattle.std.proofs.Common.{Some, None, Option, ℕ}
use Prim.Native.Nat.{ℕ, zero, suc, ◌<◌}
use mathlib.Core.Path.{◌≡◌, refl, sym, ap, subst, ◌∙◌}
use mathlib.Core.List.{List, [], ◌∷◌, map}
use native.Mathlib.Omega.{arith}
use lib.ListN.{length, get_or, set, length-set}
use lib.Seq.{take-set-lt}
use Rattle.records.specs.Limits.{placed_max, id_max}
use Rattle.records.specs.declared.payload.Payload.{Payload}
use Rattle.memory.specs.Config.{cpus_max}
use Rattle.state.specs.Change as state
use Rattle.state.specs.State as kept
use Rattle.state.specs.declared.state.Job as declared
use Rattle.state.specs.declared.state.State.{State}
use Rattle.model.specs.Memory.{padded}
use Rattle.model.specs.Model.{Loaded, Job, Model, no_payload}
use Rattle.model.specs.Step as model
use Rattle.refinement.specs.Stands.{Loader, record_of, JobsStand, StateStands, Stands}
use Rattle.refinement.proofs.Lookups.{with-slot, payload-at, slot_counted}
use Rattle.refinement.proofs.Stores.{store-set}

-- the loader with another state
abbrev pub with_state : State → Loader → Loader
with_state s u =
    record { state = s; text = u.text; arena = u.arena; undo = u.undo; ids = u.ids; build_id = u.build_id }

pub map-set : {A B : Type 0} (f : A → B) (xs : List A) (i : ℕ) (x : A) → map f (set xs i x) ≡ set (map f xs) i (f x)
map-set f [] i x = refl
map-set f (y ∷ xs) zero x = refl
map-set f (y ∷ xs) (suc i) x = ap (◌∷◌ (f y)) (map-set f xs i x)

-- ---- a job

pub job-set :
    {s : State} {l : Model} → StateStands s l → (j : declared.Job) (o : Option Job) → JobsStand l.start.cpus j o →
    length j.held ≡ cpus_max → StateStands (kept.with_job j s) (model.with_job o l)
job-set k j o stands whole = record {
  config = k.config;
  version = k.version;
  count = k.count;
  payloads = k.payloads;
  depth = k.depth;
  stack = k.stack;
  job = stands;
  payloads_whole = k.payloads_whole;
  stack_whole = k.stack_whole;
  held_whole = whole;
}

-- ---- a payload

-- a change of a payload, and of its record
pub record Change (f : Payload → Payload) (g : Loaded → Loaded) : Type 0 where
  pub records : (p : Loaded) → record_of (g p) ≡ f (record_of p)
  pub slot : (p : Loaded) → (g p).slot ≡ p.slot
  pub id : (p : Loaded) → (g p).id ≡ p.id
  pub image : (p : Loaded) → (g p).image ≡ p.image

pub result-change : (n : ℕ) → Change (kept.with_result n) (model.with_result n)
unfolding record_of
result-change n = record { records = λ p. refl; slot = λ p. refl; id = λ p. refl; image = λ p. refl }

module _ (f : Payload → Payload) (g : Loaded → Loaded) (change : Change f g) where
  changed-at :
      {s : State} {l : Model} → StateStands s l → (i : ℕ) → i < length l.payloads →
      StateStands (state.changed_at f s i) (model.changed_found g l (Some i))
  changed-at {s} {l} k i h =
      let p : Loaded = get_or l.payloads i no_payload in
      let counted : i < s.count = omega (arith, k.count) in
      record {
        config = k.config;
        version = k.version;
        count = k.count ∙ sym (length-set l.payloads i (g p));
        payloads =
            take-set-lt s.count s.payloads i _ counted
            ∙ rw (k.payloads, payload-at k i h, ← change.records p)
            (sym (map-set record_of l.payloads i (g p)));
        depth = k.depth;
        stack = k.stack;
        job = k.job;
        payloads_whole = length-set s.payloads i _ ∙ k.payloads_whole;
        stack_whole = k.stack_whole;
        held_whole = k.held_whole;
      }

  -- the memory stays as it was
  pub found-stands :
      {u : Loader} {l : Model} → Stands u l → (x : Option ℕ) → ((i : ℕ) → x ≡ Some i → i < length l.payloads) →
      Stands (with_state (state.changed_found f u.state x) u) (model.changed_found g l x)
  found-stands {u} {l} k (Some i) counted =
      let p : Loaded = get_or l.payloads i no_payload in
      record {
        accepted = k.accepted;
        state = changed-at k.state i (counted i refl);
        text = k.text;
        arena = k.arena ∙ sym (store-set placed_max (λ q. q.image) l.payloads i (g p) (change.slot p) (change.image p));
        undo = k.undo;
        ids = k.ids ∙ sym (store-set id_max (λ q. padded id_max q.id) l.payloads i (g p) (change.slot p) (ap (padded id_max) (change.id p)));
        build_id = k.build_id;
      }
  found-stands k None counted = k

  pub in-stands :
      {u : Loader} {l : Model} → Stands u l → (slot : ℕ) →
      Stands (with_state (state.changed_in f u.state slot) u) (model.changed_in g l slot)
  unfolding state.changed_in
  in-stands {u} {l} k slot =
      subst (λ (x : Option ℕ). Stands (with_state (state.changed_found f u.state x) u) (model.changed_in g l slot)) (sym (with-slot k.state slot))
      (found-stands k (model.with_slot l slot) (slot_counted k.state slot))

pub job-stands :
    {u : Loader} {l : Model} → Stands u l → (j : declared.Job) (o : Option Job) → JobsStand l.start.cpus j o →
    length j.held ≡ cpus_max → Stands (with_state (kept.with_job j u.state) u) (model.with_job o l)
job-stands k j o stands whole = record {
  accepted = k.accepted;
  state = job-set k.state j o stands whole;
  text = k.text;
  arena = k.arena;
  undo = k.undo;
  ids = k.ids;
  build_id = k.build_id;
}
