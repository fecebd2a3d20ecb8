-- Where a state stands for a model: what is looked up in the one is what is looked up in the other.
use Rattle.std.proofs.Common.{Some, None, Option, ℕ}
use Prim.Native.Nat.{ℕ, zero, suc, ◌+◌, ◌-◌, ◌<◌}
use mathlib.Core.Path.{◌≡◌, refl, sym, ap, ◌∙◌}
use mathlib.Core.Bool.{Bool, true, false, cond}
use mathlib.Core.List.{List, [], ◌∷◌, map, reverse, reverse-reverse, reverse-cons}
use native.Mathlib.Omega.{arith}
use borrow.Author.Tests.{lt-ltb}
use lib.Dec.{eqb, ltb}
use lib.ListN.{length, get_or, take, get_or-map, length-map, length-reverse}
use lib.Seq.{take_at, get_or-take, get_or_at}
use Rattle.words.specs.Name.{is_found}
use Rattle.words.specs.Order.{equal}
use Rattle.words.specs.Scan.{scan}
use Rattle.words.specs.Splice.{splice}
use Rattle.words.proofs.Find.{where-map, first-hit}
use Rattle.words.proofs.Splice.{get_d_default}
use Rattle.records.specs.Payload.{kept_name, no_id, named, empty}
use Rattle.memory.specs.Memory.{slot_count}
use Rattle.state.specs.Find as state
use Rattle.state.specs.State.{stack_of, name_of}
use Rattle.state.specs.declared.state.State.{State}
use Rattle.model.specs.Model.{Loaded, Model, no_payload}
use Rattle.model.specs.Step as model
use Rattle.invariant.specs.Sound.{Sound}
use Rattle.refinement.specs.Stands.{record_of, StateStands}
use Rattle.refinement.proofs.Counting.{room-left}

-- ---- a record

-- a name that is kept, without the zeros after it
pub name-kept : (name : List ℕ) → take (length name) (kept_name name) ≡ name
unfolding kept_name splice
name-kept name = take_at name _ (length name) refl

pub name-of-record : (p : Loaded) → name_of (record_of p) ≡ p.name
unfolding record_of
name-of-record p = name-kept p.name

-- the record of no payload
pub none_kept : empty ≡ record_of no_payload
unfolding record_of empty named no_id splice
none_kept = refl

-- ---- a slot that an upload takes

module _ (l : Model) where
  abbrev free_from : ℕ → ℕ → Option ℕ
  free_from i k = scan (λ slot rest. cond (is_found (model.with_slot l slot)) rest (Some slot)) None i k

  free-here :
      (i k e : ℕ) (t : Bool) → is_found (model.with_slot l i) ≡ t →
      (free_from (suc i) k ≡ Some e → (e < suc i + k) × (is_found (model.with_slot l e) ≡ false)) →
      cond t (free_from (suc i) k) (Some i) ≡ Some e → (e < i + suc k) × (is_found (model.with_slot l e) ≡ false)
  free-here i k e true taken later h =
      let f = later h in
      (omega (arith, f.0), f.1)
  free-here i k e false taken later h =
      let same : i ≡ e = cc in
      (omega arith, rw same at taken)

  free-from : (i k e : ℕ) → free_from i k ≡ Some e → (e < i + k) × (is_found (model.with_slot l e) ≡ false)
  unfolding scan
  free-from i zero e h =
      let never : ◌≡◌ {A = ℕ} 0 1 = cc in
      absurd (omega arith)
  free-from i (suc k) e h = free-here i k e (is_found (model.with_slot l i)) refl (free-from (suc i) k e) h

  pub free-found : (e : ℕ) → model.free_slot l ≡ Some e → (e < slot_count) × (is_found (model.with_slot l e) ≡ false)
  unfolding model.free_slot
  free-found e h = free-from 0 slot_count e h

cond_same : {A : Type 0} {x : A} (t : Bool) → cond t x x ≡ x
cond_same true = refl
cond_same false = refl

-- ---- the list

module _ {s : State} {l : Model} (k : StateStands s l) where
  pub with-slot : (slot : ℕ) → state.with_slot s slot ≡ model.with_slot l slot
  unfolding state.with_slot model.with_slot record_of
  with-slot slot = rw k.payloads (where-map (state.is_in slot) record_of 0 l.payloads)

  pub with-name : (name : List ℕ) → state.with_name s name ≡ model.with_name l name
  unfolding state.with_name model.with_name
  with-name name = rw k.payloads (where-map (state.is_named name) record_of 0 l.payloads ∙ simp name-of-record)

  pub is-taken : (slot : ℕ) → state.is_taken s slot ≡ is_found (model.with_slot l slot)
  is-taken slot = ap is_found (with-slot slot)

  pub payload-at : (i : ℕ) → i < length l.payloads → state.payload_at s i ≡ record_of (get_or l.payloads i no_payload)
  payload-at i h =
      let counted : i < s.count = omega (arith, k.count) in
      sym (get_or-take s.count s.payloads i empty counted)
      ∙ rw k.payloads (get_d_default (map record_of l.payloads) i empty (record_of no_payload) (rw length-map h)
      ∙ get_or-map record_of l.payloads i no_payload)

  -- what a search found is counted
  pub slot_counted : (slot i : ℕ) → model.with_slot l slot ≡ Some i → i < length l.payloads
  unfolding model.with_slot
  slot_counted slot i h = (first-hit (λ (p : Loaded). eqb p.slot slot) l.payloads no_payload i h).0

  pub name-counted : (name : List ℕ) (i : ℕ) → model.with_name l name ≡ Some i → i < length l.payloads
  unfolding model.with_name
  name-counted name i h = (first-hit (λ (p : Loaded). equal p.name name) l.payloads no_payload i h).0

  pub payload-found : (f : Option ℕ) → ((i : ℕ) → f ≡ Some i → i < length l.payloads) → state.payload_found s f ≡ record_of (model.payload_found l f)
  payload-found (Some i) h = payload-at i (h i refl)
  payload-found None h = none_kept

  pub payload-in : (slot : ℕ) → state.payload_in s slot ≡ record_of (model.payload_in l slot)
  unfolding state.payload_in
  payload-in slot = rw (with-slot slot) (payload-found (model.with_slot l slot) (slot_counted slot))

  pub payload-named : (name : List ℕ) → state.payload_found s (state.with_name s name) ≡ record_of (model.named l name)
  payload-named name = rw (with-name name) (payload-found (model.with_name l name) (name-counted name))

  pub lowest-free : state.lowest_free s ≡ model.free_slot l
  unfolding state.lowest_free model.free_slot
  lowest-free = simp with-slot

  -- the payloads are fewer than 8 where a slot is free
  free-if : Sound l → (f : Option ℕ) → model.free_slot l ≡ f → cond (ltb s.count slot_count) f None ≡ f
  unfolding model.with_slot
  free-if sound (Some e) h =
      let free = free-found l e h in
      let room = room-left l.start l.payloads sound.payloads sound.apart e free.0 free.1 in
      let short : s.count < slot_count = omega (arith, k.count) in
      rw (lt-ltb s.count slot_count short)
  free-if sound None h = cond_same (ltb s.count slot_count)

  pub free-slot : Sound l → state.free_slot s ≡ model.free_slot l
  unfolding state.free_slot
  free-slot sound = rw lowest-free (free-if sound (model.free_slot l) refl)

  -- ---- the stack

  pub stack-of : stack_of s ≡ reverse l.stack
  stack-of = sym (reverse-reverse (stack_of s)) ∙ ap reverse k.stack

  pub top-slot : (slot : ℕ) (older : List ℕ) → l.stack ≡ slot ∷ older → get_or s.stack (s.depth - 1) 0 ≡ slot
  top-slot slot older h =
      let deep : s.depth ≡ suc (length older) = k.depth ∙ ap length h in
      let last : s.depth - 1 ≡ length older = omega arith in
      let inside : length older < s.depth = omega arith in
      rw last
      (sym (get_or-take s.depth s.stack (length older) 0 inside)
      ∙ rw (stack-of, h, reverse-cons slot older) (get_or_at (reverse older) slot [] 0 (length older) (length-reverse older)))
