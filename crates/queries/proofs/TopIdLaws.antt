-- The id that is on top: it lies in the id store, and its length is in its limits.
use Prim.Native.Nat.{ℕ, ◌+◌, ◌≤◌, ◌<◌}
use mathlib.Core.Path.{◌≡◌, refl}
use mathlib.Core.Bool.{Bool, true, false, cond}
use mathlib.Core.List.{List, []}
use native.Mathlib.Omega.{arith}
use borrow.Author.Tests.{le-leb, eqb-true, eqb-false}
use lib.Dec.{eqb}
use lib.ListN.{length}
use Rattle.words.specs.Splice.{part}
use Rattle.words.proofs.Splice.{length_part, part-all}
use Rattle.words.proofs.Tests.{three}
use Rattle.records.specs.Limits.{id_min, id_max}
use Rattle.memory.specs.Memory.{slot_count, id_at, ids_size}
use Rattle.memory.proofs.Laws.{valid-config}
use Rattle.state.specs.Find.{payload_in}
use Rattle.state.specs.declared.state.State.{State}
use Rattle.state.proofs.Whole.{Whole}
use Rattle.ranges.specs.Ranges.{in_range}
use Rattle.ranges.proofs.Laws.{InRange, in-range, taken-in-range}
use Rattle.queries.specs.TopId.{top_slot, top_id, id_place, top_place, id_there, id_sizes_ok, top_id_of, HandsOut}
use Rattle.queries.specs.declared.top_id.IdPlace.{IdPlace}

module _ (s : State) where
  -- the payload that was applied last
  pub record Top : Type 0 where
    pub slot : top_slot s < slot_count
    pub id_some : id_min ≤ (payload_in s (top_slot s)).id_length
    pub id_max : (payload_in s (top_slot s)).id_length ≤ id_max

  pub top : InRange s → 1 ≤ s.depth → Top
  top r h =
      let t = taken-in-range r (top_slot s) (r.stack _ (omega arith)) in
      record { slot = omega (arith, t.0.slot, t.1); id_some = t.0.id_some; id_max = t.0.id_max }

  -- right numbers and sizes
  pub record Sized (build_id ids : ℕ) : Type 0 where
    pub ranges : in_range s ≡ true
    pub id : build_id ≡ s.config.id_length
    pub store : ids ≡ ids_size

  pub sizes-told : (build_id ids : ℕ) → id_sizes_ok s build_id ids ≡ true → Sized build_id ids
  unfolding id_sizes_ok
  sizes-told build_id ids h =
      let parts = three (in_range s) (eqb build_id s.config.id_length) (eqb ids ids_size) h in
      record { ranges = parts.0; id = eqb-true _ _ parts.1; store = eqb-true _ _ parts.2 }

  -- the length of an id
  pub length-top-id :
      (build_id ids : List ℕ) → Whole s → Sized (length build_id) (length ids) →
      (id_min ≤ length (top_id s build_id ids)) × (length (top_id s build_id ids) ≤ id_max)
  unfolding top_id
  length-top-id build_id ids w z = by-depth (eqb s.depth 0) refl
    where
      r : InRange s
      r = in-range w z.ranges

      kept : List ℕ
      kept = part ids (id_at (top_slot s)) (payload_in s (top_slot s)).id_length

      by-depth : (t : Bool) → eqb s.depth 0 ≡ t → (id_min ≤ length (cond t build_id kept)) × (length (cond t build_id kept) ≤ id_max)
      by-depth true e =
          let v = valid-config s.config r.config in
          (omega (arith, v.id_some, z.id), omega (arith, v.id_max, z.id))
      by-depth false e =
          let some : 1 ≤ s.depth = omega (arith, eqb-false s.depth 0 e) in
          let t = top r some in
          let inside : id_at (top_slot s) + (payload_in s (top_slot s)).id_length ≤ length ids = omega (arith, t.slot, t.id_max, z.store) in
          rw (length_part ids (id_at (top_slot s)) (payload_in s (top_slot s)).id_length inside) (t.id_some, t.id_max)

  -- the place of the part is where it stands
  pub id-there :
      (build_id ids : List ℕ) → id_sizes_ok s (length build_id) (length ids) ≡ true →
      id_there (top_place s) build_id ids ≡ top_id s build_id ids
  unfolding top_place top_id
  id-there build_id ids h = by-depth (eqb s.depth 0)
    where
      z : Sized (length build_id) (length ids)
      z = sizes-told (length build_id) (length ids) h

      kept : IdPlace
      kept = id_place 1 (id_at (top_slot s)) (payload_in s (top_slot s)).id_length

      by-depth :
          (t : Bool) →
          id_there (cond t (id_place 0 0 s.config.id_length) kept) build_id ids
          ≡ cond t build_id (part ids (id_at (top_slot s)) (payload_in s (top_slot s)).id_length)
      by-depth true = part-all build_id s.config.id_length z.id
      by-depth false = refl

  -- what a part says is what the rules say
  pub refused-id : (build_id ids : List ℕ) → id_sizes_ok s (length build_id) (length ids) ≡ false → HandsOut s build_id ids []
  unfolding top_id_of
  refused-id build_id ids h = record { equal = simp h; verdict = simp h }

  pub handed-id :
      (build_id ids id : List ℕ) → Whole s → id_sizes_ok s (length build_id) (length ids) ≡ true → id ≡ top_id s build_id ids →
      HandsOut s build_id ids id
  unfolding top_id_of
  handed-id build_id ids id w h e =
      let some : 1 ≤ length id = rw e (length-top-id build_id ids w (sizes-told (length build_id) (length ids) h)).0 in
      record { equal = simp h e; verdict = simp (h, le-leb 1 (length id) some) }
