-- Get, list and the top build-id give the model's replies.
use Rattle.records.specs.Refusal.{Verdict}
use Rattle.std.proofs.Common.{Ok, Err}
use Prim.Native.Nat.{ℕ, zero, suc, ◌-◌, ◌≤◌, min}
use mathlib.Core.Path.{◌≡◌, refl, sym, ap, ap₂, ◌∙◌}
use mathlib.Core.Bool.{true}
use mathlib.Core.List.{List, [], ◌∷◌, map}
use native.Mathlib.Omega.{arith}
use borrow.Author.Tests.{eq-eqb, ne_eqb, le-leb}
use lib.Dec.{leb}
use lib.ListN.{length, take, drop}
use Rattle.words.specs.Name.{is_found}
use Rattle.words.specs.Splice.{part}
use Rattle.records.specs.Name.{is_name}
use Rattle.records.specs.Verdict.{must, ◌then◌, decide}
use Rattle.records.specs.declared.payload.Payload.{Payload}
use Rattle.records.specs.declared.refusal.Place.TheVariants.{Nowhere}
use Rattle.records.specs.declared.refusal.Refusal.{Refusal}
use Rattle.memory.specs.Memory.{slot_count, ids_size}
use Rattle.state.specs.Find as state
use Rattle.state.specs.State.{result_word}
use Rattle.queries.specs.Get.{get_rules, get_of, got}
use Rattle.listing.specs.List as list
use Rattle.queries.specs.TopId as top
use Rattle.model.specs.Calls.{Reply, Tells, Buffers}
use Rattle.model.specs.Model.{Loaded, Model}
use Rattle.model.specs.Step as model
use Rattle.invariant.specs.Sound.{All, Sound}
use Rattle.invariant.proofs.Facts.{taken-sound}
use Rattle.refinement.specs.Replies.{tells_of, lists_of}
use Rattle.refinement.specs.Stands.{Loader, record_of, Stands}
use Rattle.refinement.proofs.InRange.{in-range}
use Rattle.refinement.proofs.Lookups.{with-name, payload-named, payload-in, top-slot}
use Rattle.refinement.proofs.Stores.{length_ids, id-in}

-- what is read of an answer, by the verdict that decides between two
decide-read : {A B : Type 0} (read : A → B) (refused : Refusal → A) (accepted : A) (v : Verdict) → read (decide refused accepted v) ≡ decide (λ r. read (refused r)) (read accepted) v
decide-read read refused accepted (Ok _) = refl
decide-read read refused accepted (Err r) = refl

-- ---- entries

abbrev pub lent : Buffers → list.Buffers
lent b = list.buffers b.statuses b.names b.lengths

abbrev pub listing_reply : list.Listing → Reply
listing_reply x = lists_of (record { statuses = x.after.statuses; names = x.after.names; lengths = x.after.lengths }) x.answer

take-map : {A B : Type 0} (f : A → B) (n : ℕ) (xs : List A) → take n (map f xs) ≡ map f (take n xs)
take-map f zero xs = refl
take-map f (suc n) [] = refl
take-map f (suc n) (x ∷ xs) = ap (◌∷◌ (f x)) (take-map f n xs)

drop-map : {A B : Type 0} (f : A → B) (n : ℕ) (xs : List A) → drop n (map f xs) ≡ map f (drop n xs)
drop-map f zero xs = refl
drop-map f (suc n) [] = refl
drop-map f (suc n) (x ∷ xs) = drop-map f n xs

part-map : {A B : Type 0} (f : A → B) (xs : List A) (at n : ℕ) → part (map f xs) at n ≡ map f (part xs at n)
unfolding part
part-map f xs at n = rw (drop-map f at xs) (take-map f n (drop at xs))

-- the bytes of records are those of the model's payloads
joined-records :
    (bytes : Payload → List ℕ) (told : Loaded → List ℕ) → ((p : Loaded) → bytes (record_of p) ≡ told p) →
    (ps : List Loaded) → list.joined bytes (map record_of ps) ≡ model.joined told ps
unfolding list.joined model.joined
joined-records bytes told same [] = refl
joined-records bytes told same (p ∷ ps) = rw (same p, joined-records bytes told same ps)

module _ (ps : List Loaded) where
  statuses-joined : list.joined list.status_bytes (map record_of ps) ≡ model.joined model.status_bytes ps
  unfolding record_of
  statuses-joined = joined-records list.status_bytes model.status_bytes (λ p. refl) ps

  names-joined : list.joined list.name_bytes (map record_of ps) ≡ model.joined model.name_bytes ps
  unfolding record_of
  names-joined = joined-records list.name_bytes model.name_bytes (λ p. refl) ps

  lengths-joined : list.joined list.length_bytes (map record_of ps) ≡ model.joined model.length_bytes ps
  unfolding record_of
  lengths-joined = joined-records list.length_bytes model.length_bytes (λ p. refl) ps

module _ {u : Loader} {l : Model} (k : Stands u l) (sound : Sound l) where
  get-rules :
      (name : List ℕ) →
      get_rules u.state name ≡ (must (is_name name) 22 Nowhere then must (is_found (model.with_name l name)) 2 Nowhere)
  unfolding get_rules
  get-rules name = rw (in-range k sound, with-name k.state name)

  pub get-agrees : (name : List ℕ) → tells_of (get_of u.state name) ≡ model.get l name
  unfolding get_of model.get record_of
  get-agrees name =
      decide-read tells_of Err (Ok (got (state.payload_found u.state (state.with_name u.state name)))) (get_rules u.state name)
      ∙ ap₂ (λ v p. decide (λ r. Tells (Err r) 0 0) (Tells (Ok tt) p.status (result_word p.result)) v) (get-rules name)
      (payload-named k.state name)

  list-rules :
      (idx nr : ℕ) (b : Buffers) →
      list.list_rules u.state idx nr (lent b)
      ≡ (must (leb nr slot_count) 7 Nowhere
      then must (leb idx (length l.payloads)) 22 Nowhere
      then must (model.has_room nr b) 22 Nowhere)
  unfolding list.list_rules_for list.has_room model.has_room
  list-rules idx nr b = rw (in-range k sound, k.state.count)

  pub list-agrees : (idx nr : ℕ) (b : Buffers) → listing_reply (list.list_of u.state idx nr (lent b)) ≡ model.list_from l idx nr b
  unfolding list.list_of model.list_from
  list-agrees idx nr b =
      decide-read listing_reply (λ r. list.listing (Err r) (lent b)) _ (list.list_rules u.state idx nr (lent b))
      ∙ rw (
        list-rules idx nr b,
        k.state.payloads,
        k.state.count,
        k.state.version,
        part-map record_of l.payloads idx (min nr (length l.payloads - idx)),
        statuses-joined,
        names-joined,
        lengths-joined,
      )

  -- ---- the top build-id

  pub id-sizes : top.id_sizes_ok u.state (length u.build_id) (length u.ids) ≡ true
  unfolding top.id_sizes_ok
  id-sizes =
      let config : u.state.config.id_length ≡ length l.start.build_id = ap (λ c. c.id_length) k.state.config in
      let build : length u.build_id ≡ u.state.config.id_length = ap length k.build_id ∙ sym config in
      let ids : length u.ids ≡ ids_size = ap length k.ids ∙ length_ids sound in
      rw (in-range k sound, eq-eqb _ _ build, eq-eqb _ _ ids)

  pub top-over :
      (stack : List ℕ) → l.stack ≡ stack → All (λ slot. is_found (model.with_slot l slot) ≡ true) stack →
      top.top_id u.state u.build_id u.ids ≡ model.top_id_over l stack
  unfolding top.top_id record_of
  top-over [] e loaded =
      let none : u.state.depth ≡ 0 = k.state.depth ∙ ap length e in
      rw (eq-eqb _ 0 none) k.build_id
  top-over (slot ∷ older) e loaded =
      let deep : u.state.depth ≡ suc (length older) = k.state.depth ∙ ap length e in
      rw (ne_eqb u.state.depth 0 (λ z. omega arith), top-slot k.state slot older e, payload-in k.state slot, k.ids)
      (id-in sound slot loaded.0)

  pub top-id-agrees : top.top_id_of u.state u.build_id u.ids ≡ model.top_id l
  unfolding top.top_id_of model.top_id
  top-id-agrees = rw id-sizes (top-over l.stack refl sound.stacked)

  -- an id has at least one byte
  id_some : (stack : List ℕ) → All (λ slot. is_found (model.with_slot l slot) ≡ true) stack → 1 ≤ length (model.top_id_over l stack)
  id_some [] loaded = sound.start.id_some
  id_some (slot ∷ older) loaded = (taken-sound sound slot loaded.0).0.id_some

  -- so the part that is handed out says that sizes and state are right
  pub top-id-handed : top.HandsOut u.state u.build_id u.ids (top.top_id_of u.state u.build_id u.ids)
  unfolding model.top_id
  top-id-handed =
      record {
        equal = refl;
        verdict = rw (id-sizes, top-id-agrees, le-leb 1 _ (id_some l.stack sound.stacked)) refl;
      }
