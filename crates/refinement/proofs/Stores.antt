-- Laws of `store_of`, once for every width: a store's length, the part of a slot, and the store after a payload is put last, taken out or changed.
use Rattle.std.proofs.Common.{Some, None, Option, ℕ}
use Prim.Native.Nat.{ℕ, zero, suc, ◌+◌, ◌*◌, ◌≤◌, ◌<◌}
use mathlib.Core.Path.{◌≡◌, refl, sym, ap, ◌∙◌}
use mathlib.Core.Bool.{Bool, true, false, cond}
use mathlib.Core.List.{List, [], ◌∷◌, ◌++◌, map}
use native.Mathlib.Nat.{mul-le-mul_left}
use native.Mathlib.Omega.{arith}
use borrow.Author.Tests.{ltb-true, ltb-false, eqb-true, eqb-false}
use lib.Dec.{eqb, ltb}
use lib.ListN.{length, get_or, set, take, drop, replicate, length-replicate}
use lib.Seq.{map-set_same, take-take}
use Rattle.words.specs.Find.{where_from}
use Rattle.words.specs.Name.{is_found}
use Rattle.words.specs.Splice.{part, splice}
use Rattle.words.proofs.Find.{first-hit}
use Rattle.words.proofs.Splice.{length-splice, splice-splice, splice-splice-apart, part-splice-same, part-splice-before, part-splice-after}
use Rattle.records.specs.Limits.{placed_max, id_max}
use Rattle.memory.specs.Memory.{slot_count, arena_size, id_at, ids_size}
use Rattle.model.specs.Memory.{store_of, arena_of, ids_of, padded}
use Rattle.model.specs.Model.{Start, Loaded, Model, no_payload}
use Rattle.model.specs.Step.{with_slot, payload_found, payload_in}
use Rattle.invariant.specs.Sound.{All, Absent, Apart, SoundPayload, Sound}
use Rattle.invariant.proofs.Lists.{all-at, all-as, found-any}
use Rattle.refinement.proofs.Undo.{part-zeros, splice-same, length-padded, part-padded}

-- ---- payloads in slots

-- a slot that is in no payload of a list is not the first one's, and in none of the others
pub absent-here : (slot : ℕ) (p : Loaded) (ps : List Loaded) → Absent slot (p ∷ ps) → (p.slot ≡ slot → ⊥) × Absent slot ps
unfolding where_from
absent-here slot p ps = by-test (eqb p.slot slot) refl
  where
    by-test :
        (t : Bool) → eqb p.slot slot ≡ t → is_found (cond t (Some 0) (where_from (λ q. eqb q.slot slot) 1 ps)) ≡ false →
        (p.slot ≡ slot → ⊥) × Absent slot ps
    by-test true e h =
        let never : ◌≡◌ {A = ℕ} 0 1 = cc in
        absurd (omega arith)
    by-test false e h = (eqb-false p.slot slot e, found-any (λ q. eqb q.slot slot) 0 ps ∙ sym (found-any (λ q. eqb q.slot slot) 1 ps) ∙ h)

-- so it is not the slot of the payload at any place
pub absent-at : (slot : ℕ) (ps : List Loaded) (i : ℕ) → Absent slot ps → i < length ps → (get_or ps i no_payload).slot ≡ slot → ⊥
absent-at slot [] i h g e = omega arith
absent-at slot (p ∷ ps) zero h g e = (absent-here slot p ps h).0 e
absent-at slot (p ∷ ps) (suc i) h g e = absent-at slot ps i (absent-here slot p ps h).1 (omega arith) e

-- ---- stores

-- a payload has n bytes for the store, and a slot
pub record Fills (n : ℕ) (bytes : Loaded → List ℕ) (p : Loaded) : Type 0 where
  pub size : length (bytes p) ≡ n
  pub slot : p.slot < slot_count

module _ (n : ℕ) where
  -- parts of two slots do not overlap
  inside : (i : ℕ) → i < slot_count → n * i + n ≤ n * slot_count
  inside i h = omega (arith, mul-le-mul_left n h)

  -- so two slots may be written in either order
  swap :
      (s : List ℕ) (i j : ℕ) (a b : List ℕ) → length s ≡ n * slot_count → i < slot_count → j < slot_count → length a ≡ n → length b ≡ n →
      (i ≡ j → ⊥) → splice (splice s (n * i) a) (n * j) b ≡ splice (splice s (n * j) b) (n * i) a
  swap s i j a b whole hi hj la lb other = by_order (ltb i j) refl
    where
      by_order : (t : Bool) → ltb i j ≡ t → splice (splice s (n * i) a) (n * j) b ≡ splice (splice s (n * j) b) (n * i) a
      by_order true e =
          let less : i < j = ltb-true i j e in
          splice-splice-apart s (n * i) (n * j) a b (omega (arith, mul-le-mul_left n less)) (omega (arith, inside j hj))
      by_order false e =
          let more : j ≤ i = ltb-false i j e in
          let less : j < i = omega arith in
          sym (splice-splice-apart s (n * j) (n * i) b a (omega (arith, mul-le-mul_left n less)) (omega (arith, inside i hi)))

  -- the part of one slot, where another is written
  part-other :
      (s : List ℕ) (i j : ℕ) (a : List ℕ) → length s ≡ n * slot_count → i < slot_count → length a ≡ n → (i ≡ j → ⊥) →
      part (splice s (n * i) a) (n * j) n ≡ part s (n * j) n
  part-other s i j a whole hi la other = by_order (ltb i j) refl
    where
      fits : n * i ≤ length s
      fits = omega (arith, inside i hi)

      by_order : (t : Bool) → ltb i j ≡ t → part (splice s (n * i) a) (n * j) n ≡ part s (n * j) n
      by_order true e =
          let less : i < j = ltb-true i j e in
          part-splice-after s (n * i) a fits (n * j) n (omega (arith, mul-le-mul_left n less))
      by_order false e =
          let more : j ≤ i = ltb-false i j e in
          let less : j < i = omega arith in
          part-splice-before s (n * i) a fits (n * j) n (omega (arith, mul-le-mul_left n less))

module _ (n : ℕ) (bytes : Loaded → List ℕ) where
  pub length-store : (ps : List Loaded) → All (Fills n bytes) ps → length (store_of n bytes ps) ≡ n * slot_count
  unfolding store_of
  length-store [] h = length-replicate (n * slot_count) 0
  length-store (p ∷ ps) h =
      let whole = length-store ps h.1 in
      length-splice (store_of n bytes ps) (n * p.slot) (bytes p) (omega (arith, inside n p.slot h.0.slot, h.0.size)) ∙ whole

  -- the part of a slot that no payload is in is zeros
  pub part_free :
      (slot : ℕ) (ps : List Loaded) → All (Fills n bytes) ps → slot < slot_count → Absent slot ps →
      part (store_of n bytes ps) (n * slot) n ≡ replicate n 0
  unfolding store_of
  part_free slot [] h l free = part-zeros (n * slot_count) (n * slot) n (inside n slot l)
  part_free slot (p ∷ ps) h l free =
      let other = absent-here slot p ps free in
      part-other n (store_of n bytes ps) p.slot slot (bytes p) (length-store ps h.1) h.0.slot h.0.size other.0
      ∙ part_free slot ps h.1 l other.1

  -- the part of a payload's slot is its bytes
  pub part_held :
      (ps : List Loaded) (i : ℕ) → All (Fills n bytes) ps → Apart ps → i < length ps →
      part (store_of n bytes ps) (n * (get_or ps i no_payload).slot) n ≡ bytes (get_or ps i no_payload)
  unfolding store_of
  part_held [] i h apart l = absurd (omega arith)
  part_held (p ∷ ps) zero h apart l =
      let fits : n * p.slot ≤ length (store_of n bytes ps) = omega (arith, length-store ps h.1, inside n p.slot h.0.slot) in
      ap (part (store_of n bytes (p ∷ ps)) (n * p.slot)) (sym h.0.size) ∙ part-splice-same (store_of n bytes ps) (n * p.slot) (bytes p) fits
  part_held (p ∷ ps) (suc i) h apart l =
      let below : i < length ps = omega arith in
      part-other n (store_of n bytes ps) p.slot (get_or ps i no_payload).slot (bytes p) (length-store ps h.1) h.0.slot h.0.size
      (λ e. absent-at p.slot ps i apart.0 below (sym e))
      ∙ part_held ps i h.1 apart.1 below

  -- a payload put last
  pub store-put :
      (ps : List Loaded) (p : Loaded) → All (Fills n bytes) ps → Fills n bytes p → Absent p.slot ps →
      store_of n bytes (ps ++ (p ∷ [])) ≡ splice (store_of n bytes ps) (n * p.slot) (bytes p)
  unfolding store_of
  store-put [] p h f free = refl
  store-put (q ∷ ps) p h f free =
      let other = absent-here p.slot q ps free in
      rw (store-put ps p h.1 f other.1)
      (swap n (store_of n bytes ps) p.slot q.slot (bytes p) (bytes q) (length-store ps h.1) f.slot h.0.slot f.size h.0.size
      (λ e. other.0 (sym e)))

  -- a payload taken out: its slot is zeroed
  pub store-taken :
      (ps : List Loaded) (i : ℕ) → All (Fills n bytes) ps → Apart ps → i < length ps →
      splice (store_of n bytes ps) (n * (get_or ps i no_payload).slot) (replicate n 0) ≡ store_of n bytes (take i ps ++ drop (suc i) ps)
  unfolding store_of
  store-taken [] i h apart l = absurd (omega arith)
  store-taken (p ∷ ps) zero h apart l =
      let whole = length-store ps h.1 in
      let room : n * p.slot + n ≤ length (store_of n bytes ps) = omega (arith, whole, inside n p.slot h.0.slot) in
      let few : length (bytes p) ≤ length (replicate {A = ℕ} n 0) = omega (arith, h.0.size, length-replicate {A = ℕ} n 0) in
      splice-splice (store_of n bytes ps) (n * p.slot) (bytes p) (omega arith) (replicate n 0) few
      ∙ splice-same (store_of n bytes ps) (n * p.slot) n (replicate n 0) room (part_free p.slot ps h.1 h.0.slot apart.0)
  store-taken (p ∷ ps) (suc i) h apart l =
      let below : i < length ps = omega arith in
      swap n (store_of n bytes ps) p.slot (get_or ps i no_payload).slot (bytes p) (replicate n 0) (length-store ps h.1) h.0.slot (all-at (Fills n bytes) ps h.1 i no_payload below).slot
      h.0.size (length-replicate n 0) (λ e. absent-at p.slot ps i apart.0 below (sym e))
      ∙ rw (store-taken ps i h.1 apart.1 below)

  -- a store is told by the slots and bytes of its payloads
  abbrev kept : Loaded → ℕ × List ℕ
  kept p = (p.slot, bytes p)

  pub store_by : (ps qs : List Loaded) → map kept ps ≡ map kept qs → store_of n bytes ps ≡ store_of n bytes qs
  unfolding store_of
  store_by [] [] e = refl
  store_by [] (q ∷ qs) e = cc
  store_by (p ∷ ps) [] e = cc
  store_by (p ∷ ps) (q ∷ qs) e =
      let first : kept p ≡ kept q = cc in
      let rest : map kept ps ≡ map kept qs = cc in
      rw (store_by ps qs rest) (ap (λ (x : ℕ × List ℕ). splice (store_of n bytes qs) (n * x.0) x.1) first)

  -- so a payload whose slot and bytes stay may change
  pub store-set :
      (ps : List Loaded) (i : ℕ) (q : Loaded) → q.slot ≡ (get_or ps i no_payload).slot → bytes q ≡ bytes (get_or ps i no_payload) →
      store_of n bytes (set ps i q) ≡ store_of n bytes ps
  store-set ps i q slot same = store_by (set ps i q) ps (map-set_same kept ps i q no_payload (rw (same, slot)))

  pub store-map :
      (f : Loaded → Loaded) (ps : List Loaded) → ((p : Loaded) → (f p).slot ≡ p.slot) → ((p : Loaded) → bytes (f p) ≡ bytes p) →
      store_of n bytes (map f ps) ≡ store_of n bytes ps
  unfolding store_of
  store-map f [] slot same = refl
  store-map f (p ∷ ps) slot same = rw (store-map f ps slot same, same p, slot p)

-- ---- the model's stores

-- the first bytes of a part
part-first : (s : List ℕ) (at n k : ℕ) → k ≤ n → part s at k ≡ part (part s at n) 0 k
unfolding part
part-first s at n k h = sym (take-take k n (drop at s) h)

-- a sound payload fills its slot of the arena and of the id store
module _ (a : Start) where
  pub image-fills : (p : Loaded) → SoundPayload a p → Fills placed_max (λ q. q.image) p
  image-fills p s = record { size = s.image; slot = s.slotted }

  pub id-fills : (p : Loaded) → SoundPayload a p → Fills id_max (λ q. padded id_max q.id) p
  id-fills p s = record { size = length-padded id_max p.id s.id_short; slot = s.slotted }

  pub images-fill : (ps : List Loaded) → All (SoundPayload a) ps → All (Fills placed_max (λ q. q.image)) ps
  images-fill ps h = all-as (SoundPayload a) (Fills placed_max (λ q. q.image)) image-fills ps h

  pub ids-fill : (ps : List Loaded) → All (SoundPayload a) ps → All (Fills id_max (λ q. padded id_max q.id)) ps
  ids-fill ps h = all-as (SoundPayload a) (Fills id_max (λ q. padded id_max q.id)) id-fills ps h

module _ {l : Model} (sound : Sound l) where
  pub length-arena : length (arena_of l) ≡ arena_size
  length-arena = length-store placed_max (λ p. p.image) l.payloads (images-fill l.start l.payloads sound.payloads)

  pub length_ids : length (ids_of l) ≡ ids_size
  length_ids = length-store id_max (λ p. padded id_max p.id) l.payloads (ids-fill l.start l.payloads sound.payloads)

  -- the id of the payload at a place, and in a slot, stands in the id store
  pub id-at :
      (i : ℕ) → i < length l.payloads →
      part (ids_of l) (id_at (get_or l.payloads i no_payload).slot) (length (get_or l.payloads i no_payload).id) ≡ (get_or l.payloads i no_payload).id
  id-at i h =
      let p : Loaded = get_or l.payloads i no_payload in
      let short : length p.id ≤ id_max = (all-at (SoundPayload l.start) l.payloads sound.payloads i no_payload h).id_short in
      let held = part_held id_max (λ q. padded id_max q.id) l.payloads i (ids-fill l.start l.payloads sound.payloads) sound.apart h in
      part-first (ids_of l) (id_at p.slot) id_max (length p.id) short
      ∙ ap (λ (s : List ℕ). part s 0 (length p.id)) held
      ∙ part-padded id_max p.id short

  pub id-in :
      (slot : ℕ) → is_found (with_slot l slot) ≡ true →
      part (ids_of l) (id_at slot) (length (payload_in l slot).id) ≡ (payload_in l slot).id
  unfolding with_slot
  id-in slot h = by_place (with_slot l slot) refl h
    where
      by_place :
          (f : Option ℕ) → with_slot l slot ≡ f → is_found f ≡ true →
          part (ids_of l) (id_at slot) (length (payload_found l f).id) ≡ (payload_found l f).id
      by_place (Some i) e g =
          let hit = first-hit (λ (p : Loaded). eqb p.slot slot) l.payloads no_payload i e in
          let same : (get_or l.payloads i no_payload).slot ≡ slot = eqb-true _ _ hit.1 in
          ap (λ (n : ℕ). part (ids_of l) (id_at n) (length (get_or l.payloads i no_payload).id)) (sym same) ∙ id-at i hit.0
      by_place None e g =
          let never : ◌≡◌ {A = ℕ} 0 1 = cc in
          absurd (omega arith)
