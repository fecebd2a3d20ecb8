-- An unload: the list without a payload, and the memory with its slot and its store entries zeroed, stand for the model without it.
use Rattle.std.proofs.Common.{Some, Ok, Option, None}
use Prim.Native.Nat.{ℕ, zero, suc, ◌+◌, ◌-◌, ◌%◌, ◌^◌, ◌≤◌, ◌<◌, min}
use mathlib.Core.Path.{◌≡◌, refl, sym, ap, ap₂, ◌∙◌}
use mathlib.Core.Bool.{Bool, true, false, cond}
use mathlib.Core.List.{List, [], ◌∷◌, ◌++◌, map}
use native.Mathlib.Omega.{arith}
use lib.Dec.{eqb}
use lib.ListN.{length, get_or, take, drop, replicate, length-append, length-take, length-drop}
use lib.Seq.{take-append-le}
use Rattle.words.specs.Name.{is_found}
use Rattle.words.specs.Scan.{scan, each}
use Rattle.words.specs.Splice.{splice}
use Rattle.records.specs.Limits.{placed_max, id_max}
use Rattle.records.specs.Payload.{empty}
use Rattle.records.specs.declared.payload.Payload.{Payload}
use Rattle.memory.specs.Memory.{slot_count, slot_at, undo_at, slot_undo_size, id_at}
use Rattle.state.specs.Find as state
use Rattle.actions.specs.Actions as actions
use Rattle.model.specs.Memory.{padded}
use Rattle.model.specs.Model.{Loaded, Laid, Job, Model, no_payload}
use Rattle.model.specs.Step as model
use Rattle.invariant.specs.Done.{first_edits, stack_edits, done_after, expected}
use Rattle.invariant.specs.Sound.{All, SoundPayload, SoundJobs, Sound}
use Rattle.invariant.proofs.Lists.{all_append, all_drop, all-at, all-fail, missing-among}
use Rattle.invariant.proofs.Slots.{slot-holds, payload-in, slot-in}
use Rattle.refinement.specs.Stands.{Loader, record_of, StateStands, Stands}
use Rattle.refinement.proofs.Counting.{few-payloads}
use Rattle.refinement.proofs.Lookups.{payload-at}
use Rattle.refinement.proofs.Stores.{images-fill, ids-fill, store-taken}
use Rattle.refinement.proofs.Undo.{slot-zeroed}

-- ---- laid edits of other slots

all-each : {A : Type 0} (P : A → Type 0) (f : ℕ → A) → ((j : ℕ) → P (f j)) → (i k : ℕ) → All P (each f i k)
unfolding scan
all-each P f h i zero = tt
all-each P f h i (suc k) = (h i, all-each P f h (suc i) k)

module _ (l : Model) (slot : ℕ) where
  abbrev Other : Laid → Type 0
  Other x = eqb x.slot slot ≡ false

  first-other : (p : Loaded) (n : ℕ) → eqb p.slot slot ≡ false → All Other (first_edits p n)
  unfolding first_edits
  first-other p n h = all-each Other (λ i. model.laid_from p (n - 1 - i)) (λ j. h) 0 n

  -- those of a payload in another slot
  in-other : (x n : ℕ) → is_found (model.with_slot l x) ≡ true → eqb x slot ≡ false → All Other (first_edits (model.payload_in l x) n)
  in-other x n found h =
      let own : (model.payload_in l x).slot ≡ x =
      ap (λ (p : Loaded). p.slot) (payload-in l x) ∙ slot-in x l.payloads (sym (slot-holds l x) ∙ found) in
      first-other (model.payload_in l x) n (rw own h)

  stack-other :
      (slots : List ℕ) → All (λ x. is_found (model.with_slot l x) ≡ true) slots → All (λ x. eqb x slot ≡ false) slots →
      All Other (stack_edits l slots)
  unfolding stack_edits
  stack-other [] found h = tt
  stack-other (x ∷ older) found h =
      all_append Other (first_edits (model.payload_in l x) _) (stack_edits l older) (in-other x _ found.0 h.0)
      (stack-other older found.1 h.1)

  -- a slot that is neither on the stack nor the job's
  laid-other :
      (p : Loaded) → p.slot ≡ slot → (o : Option Job) → SoundJobs l o → All (λ x. is_found (model.with_slot l x) ≡ true) l.stack →
      All (λ x. eqb x slot ≡ false) l.stack → model.is_busy o 1 p ≡ false → All Other (expected l o)
  unfolding done_after
  laid-other p e None job found h free = stack-other l.stack found h
  laid-other p e (Some j) job found h free =
      all_append Other (first_edits (model.payload_in l j.slot) _) _ (in-other j.slot _ job.loaded (rw e at free))
      (all_drop Other (min j.steps (model.removal_count l j)) (stack_edits l l.stack) (stack-other l.stack found h))

-- ---- a list without the element at a place

-- the first of an array: n are counted, and what stands behind them does not matter
removed-first :
    {A : Type 0} (xs : List A) (i n : ℕ) (z : A) → i < n → n ≤ length xs →
    take (n - 1) (take i xs ++ drop (suc i) xs ++ (z ∷ [])) ≡ take i (take n xs) ++ drop (suc i) (take n xs)
removed-first [] i n z h g = absurd (omega arith)
removed-first (x ∷ xs) i zero z h g = absurd (omega arith)
removed-first (x ∷ xs) zero (suc n) z h g =
    let less : suc n - 1 ≡ n = omega arith in
    let fits : n ≤ length xs = omega arith in
    rw less (take-append-le n xs (z ∷ []) fits)
removed-first (x ∷ xs) (suc i) (suc zero) z h g = absurd (omega arith)
removed-first (x ∷ xs) (suc i) (suc (suc n)) z h g =
    let less : suc (suc n) - 1 ≡ suc n = omega arith in
    let one : suc n - 1 ≡ n = omega arith in
    let later : take (suc n - 1) (take i xs ++ drop (suc i) xs ++ (z ∷ [])) ≡ take i (take (suc n) xs) ++ drop (suc i) (take (suc n) xs) =
    removed-first xs i (suc n) z (omega arith) (omega arith) in
    rw less (ap (◌∷◌ x) (rw one at later))

length_removed : {A : Type 0} (xs : List A) (i : ℕ) → i < length xs → length (take i xs ++ drop (suc i) xs) ≡ length xs - 1
length_removed xs i h = simp (length-append, length-take, length-drop) (omega arith)

map-removed :
    {A B : Type 0} (f : A → B) (xs : List A) (i : ℕ) → take i (map f xs) ++ drop (suc i) (map f xs) ≡ map f (take i xs ++ drop (suc i) xs)
map-removed f [] zero = refl
map-removed f [] (suc i) = refl
map-removed f (x ∷ xs) zero = refl
map-removed f (x ∷ xs) (suc i) = ap (◌∷◌ (f x)) (map-removed f xs i)

-- ---- the loader after an action

-- what an action is lent
abbrev pub lent_by : Loader → actions.Lent
lent_by u = actions.lent u.arena u.undo u.ids

abbrev pub after_action : Loader → actions.Acted → Loader
after_action u x =
    record {
      state = x.state;
      text = u.text;
      arena = x.after.arena;
      undo = x.after.undo;
      ids = x.after.ids;
      build_id = u.build_id;
    }

-- ---- an unload: the payload at a place, which is not applied and not the job's

module _
    {u : Loader} {l : Model} (k : Stands u l) (sound : Sound l)
    (i : ℕ) (below : i < length l.payloads) (checked : (get_or l.payloads i no_payload).status ≡ 1)
    (free : model.is_busy l.job 1 (get_or l.payloads i no_payload) ≡ false) where
  abbrev p : Loaded
  p = get_or l.payloads i no_payload

  abbrev left : Model
  left = model.with_list (take i l.payloads ++ drop (suc i) l.payloads) l

  slot-at : (state.payload_at u.state i).slot ≡ p.slot
  unfolding record_of
  slot-at = ap (λ (r : Payload). r.slot) (payload-at k.state i below)

  slot-low : p.slot < slot_count
  slot-low = (all-at (SoundPayload l.start) l.payloads sound.payloads i no_payload below).slotted

  inside : i < u.state.count
  inside = omega (arith, k.state.count)

  fits : u.state.count ≤ length u.state.payloads
  fits = omega (arith, few-payloads l.start l.payloads sound.payloads sound.apart, k.state.count, k.state.payloads_whole)

  payloads-left : take (u.state.count - 1) (actions.removed_at i u.state.payloads) ≡ map record_of left.payloads
  unfolding actions.removed_at
  payloads-left =
      removed-first u.state.payloads i u.state.count empty inside fits
      ∙ rw k.state.payloads (map-removed record_of l.payloads i)

  state-left : StateStands (actions.unloaded_at u.state (Some i)) left
  unfolding actions.removed_at
  state-left =
      record {
        config = k.state.config;
        version = ap (λ (n : ℕ). (n + 1) % 2 ^ 32) k.state.version;
        count = omega (arith, k.state.count, length_removed l.payloads i below);
        payloads = payloads-left;
        depth = k.state.depth;
        stack = k.state.stack;
        job = k.state.job;
        payloads_whole = simp (length-append, length-take, length-drop) (omega (arith, inside, fits, k.state.payloads_whole));
        stack_whole = k.state.stack_whole;
        held_whole = k.state.held_whole;
      }

  -- no edit of its is laid
  off-stack : (t : Bool) → p.status ≡ cond t 2 1 → t ≡ false
  off-stack true e = absurd (omega arith)
  off-stack false e = refl

  none-laid : All (Other l p.slot) l.laid
  none-laid =
      let status = all-at (λ q. q.status ≡ cond (model.is_applied l.stack q) 2 1) l.payloads sound.statuses i no_payload below in
      let missing = missing-among p.slot l.stack (off-stack (model.is_applied l.stack p) status) in
      let off = all-fail (λ x. eqb x p.slot) l.stack missing in
      rw sound.laid (laid-other l p.slot p refl l.job sound.job sound.stacked off free)

  abbrev unloaded : actions.Acted
  unloaded =
      record {
        answer = Ok tt;
        state = actions.unloaded_at u.state (Some i);
        after = actions.cleared (state.payload_at u.state i).slot (lent_by u);
      }

  pub stands-left : Stands (after_action u unloaded) left
  unfolding actions.cleared
  stands-left =
      record {
        accepted = k.accepted;
        state = state-left;
        text = k.text;
        arena =
            ap₂ (λ (s : List ℕ) (n : ℕ). splice s (slot_at n) (replicate placed_max 0)) k.arena slot-at
            ∙ store-taken placed_max (λ q. q.image) l.payloads i (images-fill l.start l.payloads sound.payloads) sound.apart below;
        undo =
            ap₂ (λ (s : List ℕ) (n : ℕ). splice s (undo_at n 0) (replicate slot_undo_size 0)) k.undo slot-at
            ∙ slot-zeroed l.start.text p.slot slot-low l.laid sound.fitting none-laid;
        ids =
            ap₂ (λ (s : List ℕ) (n : ℕ). splice s (id_at n) (replicate id_max 0)) k.ids slot-at
            ∙ store-taken id_max (λ q. padded id_max q.id) l.payloads i (ids-fill l.start l.payloads sound.payloads) sound.apart below;
        build_id = k.build_id;
      }
