-- The end of a job: what the state then keeps is what the model does, and arena and id store stay.
use Rattle.std.proofs.Common.{Some, None, Option, ℕ}
use Prim.Native.Nat.{ℕ, zero, suc, ◌+◌, ◌-◌, ◌≤◌, ◌<◌}
use mathlib.Core.Path.{◌≡◌, refl, sym, ap, ap₂, subst, ◌∙◌}
use mathlib.Core.Bool.{Bool, true, false, cond, ◌||◌}
use mathlib.Core.List.{List, [], ◌∷◌, ◌++◌, map, reverse, reverse-append}
use native.Mathlib.Numerals.{add-one}
use native.Mathlib.Omega.{arith}
use borrow.Author.Tests.{eqb-true, eq-eqb, ne_eqb}
use lib.Dec.{eqb}
use lib.ListN.{length, get_or, set, take, drop, length-append, length-take, length-drop, length-map, length-set, length-replicate, length-reverse, get_or-map}
use lib.Seq.{take_at, take-suc, take-suc-set, take-set-lt, get_or-take}
use Rattle.words.specs.Find.{where_from, first_where}
use Rattle.words.specs.Name.{is_found}
use Rattle.words.proofs.Find.{first-hit, where-map}
use Rattle.words.proofs.Splice.{get_d_default}
use Rattle.records.specs.Limits.{placed_max, id_max}
use Rattle.records.specs.Payload.{empty}
use Rattle.records.specs.declared.payload.Payload.{Payload}
use Rattle.memory.specs.Config.{cpus_max}
use Rattle.memory.specs.Memory.{slot_count}
use Rattle.state.specs.Change as state
use Rattle.state.specs.Find as find
use Rattle.state.specs.State.{revert, apply, replace, checked, applied, no_job, loaded, stack_of, with_result, with_status, with_payloads, with_stack, with_job}
use Rattle.state.specs.declared.state.State.{State}
use Rattle.steps.specs.Next as stepping
use Rattle.model.specs.Memory.{store_of, text_with, undo_with, padded}
use Rattle.model.specs.Model.{Loaded, Laid, Job, Model, no_payload}
use Rattle.model.specs.Step as model
use Rattle.invariant.specs.Sound.{Apart, Missing, Different, SoundJob, Sound}
use Rattle.refinement.specs.Stands.{Loader, record_of, JobStands, StateStands, Stands}
use Rattle.refinement.proofs.Changes.{map-set}
use Rattle.refinement.proofs.Counting.{all-at, found_some, few-payloads, no-more-slots}
use Rattle.refinement.proofs.InRange.{by-action}
use Rattle.refinement.proofs.Lookups.{with-slot, slot_counted}
use Rattle.refinement.proofs.Steps.{reverted}
use Rattle.refinement.proofs.Stores.{absent-at, store-set, store-map}

-- ---- lists

module _ {A B : Type 0} (f : A → B) where
  -- two maps that agree but at place i
  set-maps :
      (g : A → B) (xs : List A) (i : ℕ) (y : B) (d : A) → ((m : ℕ) → m < length xs → (m ≡ i → ⊥) → f (get_or xs m d) ≡ g (get_or xs m d)) →
      set (map f xs) i y ≡ set (map g xs) i y
  set-maps g [] i y d h = refl
  set-maps g (x ∷ xs) zero y d h = ap (λ (ys : List B). y ∷ ys) (maps xs λ m l. h (suc m) (omega arith) (λ e. omega arith))
    where
      maps : (xs : List A) → ((m : ℕ) → m < length xs → f (get_or xs m d) ≡ g (get_or xs m d)) → map f xs ≡ map g xs
      maps [] h = refl
      maps (x ∷ xs) h = ap₂ ◌∷◌ (h 0 (omega arith)) (maps xs λ m l. h (suc m) (omega arith))
  set-maps g (x ∷ xs) (suc i) y d h =
      ap₂ ◌∷◌ (h 0 (omega arith) (λ e. omega arith)) (set-maps g xs i y d λ m l o. h (suc m) (omega arith) (λ e. o (omega arith)))

map-map : {A B C : Type 0} (f : B → C) (g : A → B) (xs : List A) → map f (map g xs) ≡ map (λ x. f (g x)) xs
map-map f g [] = refl
map-map f g (x ∷ xs) = rw (map-map f g xs)

map_same : {A : Type 0} (xs : List A) → map (λ x. x) xs ≡ xs
map_same [] = refl
map_same (x ∷ xs) = rw (map_same xs)

-- ---- slots

-- payloads at two places are in two slots
apart-at :
    (ps : List Loaded) → Apart ps → (i m : ℕ) → i < length ps → m < length ps → (m ≡ i → ⊥) →
    (get_or ps m no_payload).slot ≡ (get_or ps i no_payload).slot → ⊥
apart-at [] apart i m h g other e = omega arith
apart-at (p ∷ ps) apart zero zero h g other e = other refl
apart-at (p ∷ ps) apart zero (suc m) h g other e = absent-at p.slot ps m apart.0 (omega arith) e
apart-at (p ∷ ps) apart (suc i) zero h g other e = absent-at p.slot ps i apart.0 (omega arith) (sym e)
apart-at (p ∷ ps) apart (suc i) (suc m) h g other e = apart-at ps apart.1 i m (omega arith) (omega arith) (λ same. other (omega arith)) e

applied-cons : (x : ℕ) (xs : List ℕ) (p : Loaded) → model.is_applied (x ∷ xs) p ≡ (eqb x p.slot || model.is_applied xs p)
applied-cons x xs p =
    found_some (λ y. eqb y p.slot) 0 (x ∷ xs) ∙ ap (λ (b : Bool). eqb x p.slot || b) (sym (found_some (λ y. eqb y p.slot) 0 xs))

applied-none : (p : Loaded) → model.is_applied [] p ≡ false
unfolding where_from
applied-none p = refl

-- ---- statuses

module _ (slot : ℕ) (stack : List ℕ) (action : ℕ) (low : 2 ≤ action) (high : action ≤ 4) (top : action ≡ 2 → stack ≡ slot ∷ drop 1 stack) where
  -- the status of the job's own payload
  own-status :
      Different stack → (p : Loaded) → p.slot ≡ slot →
      cond (eqb action revert) checked applied ≡ cond (model.is_applied (model.stack_after action slot stack) p) 2 1
  own-status different p same =
      by-action
      (λ a.
      (a ≡ 2 → stack ≡ slot ∷ drop 1 stack) →
      cond (eqb a revert) checked applied ≡ cond (model.is_applied (model.stack_after a slot stack) p) 2 1)
      action low high
      (λ first.
      let gone : Missing slot (drop 1 stack) = (subst Different (first refl) different).0 in
      rw (same, gone))
      (λ first. rw (applied-cons slot stack p, eq-eqb slot p.slot (sym same)))
      (λ first. rw (applied-cons slot [] p, eq-eqb slot p.slot (sym same)))
      top

  -- and of another
  other-status :
      (p : Loaded) → (p.slot ≡ slot → ⊥) → p.status ≡ cond (model.is_applied stack p) 2 1 →
      cond (eqb action replace) checked p.status ≡ cond (model.is_applied (model.stack_after action slot stack) p) 2 1
  other-status p other status =
      let not-it : eqb slot p.slot ≡ false = ne_eqb slot p.slot (λ e. other (sym e)) in
      by-action
      (λ a.
      (a ≡ 2 → stack ≡ slot ∷ drop 1 stack) →
      cond (eqb a replace) checked p.status ≡ cond (model.is_applied (model.stack_after a slot stack) p) 2 1)
      action low high
      (λ first.
      let same : model.is_applied stack p ≡ model.is_applied (drop 1 stack) p =
      ap (λ (xs : List ℕ). model.is_applied xs p) (first refl) ∙ applied-cons slot (drop 1 stack) p ∙ rw not-it in
      status ∙ ap (λ (t : Bool). cond t 2 1) same)
      (λ first. status ∙ rw (applied-cons slot stack p, not-it))
      (λ first. rw (applied-cons slot [] p, not-it, applied-none p))
      top

-- ---- the stack

abbrev depth_for : State → ℕ → ℕ
depth_for s action = cond (eqb action revert) (s.depth - 1) (cond (eqb action apply) (s.depth + 1) 1)

abbrev stack_for : State → ℕ → ℕ → List ℕ
stack_for s action slot =
    cond (eqb action revert) s.stack
    (cond (eqb action apply) (set s.stack s.depth slot)
    (set s.stack 0 slot))

stack-set-by :
    (s : State) (t u : Bool) (a b c : ℕ) (x y z : List ℕ) →
    cond t (with_stack a x s) (cond u (with_stack b y s) (with_stack c z s)) ≡
    with_stack (cond t a (cond u b c)) (cond t x (cond u y z)) s
stack-set-by s true u a b c x y z = refl
stack-set-by s false true a b c x y z = refl
stack-set-by s false false a b c x y z = refl

-- it stands for the model's
record StackAfter (s : State) (old : List ℕ) (slot action : ℕ) : Type 0 where
  depth : depth_for s action ≡ length (model.stack_after action slot old)
  stack : reverse (take (depth_for s action) (stack_for s action slot)) ≡ model.stack_after action slot old
  long : length (stack_for s action slot) ≡ slot_count

module _
    (s : State) (old : List ℕ) (slot : ℕ) (deep : s.depth ≡ length old) (is : reverse (stack_of s) ≡ old)
    (whole : length s.stack ≡ slot_count) where
  without-top : old ≡ slot ∷ drop 1 old → StackAfter s old slot 2
  without-top top =
      let d : ℕ = s.depth - 1 in
      let some : length old ≡ suc (length (drop 1 old)) = ap length top in
      let next : s.depth ≡ suc d = omega arith in
      let inside : d < length s.stack =
      omega (arith, ap length is, length-reverse (stack_of s), length-take s.depth s.stack) in
      let taken : reverse (stack_of s) ≡ get_or s.stack d 0 ∷ reverse (take d s.stack) =
      ap (λ (n : ℕ). reverse (take n s.stack)) next
      ∙ ap reverse (take-suc s.stack d 0 inside)
      ∙ reverse-append (take d s.stack) (get_or s.stack d 0 ∷ []) in
      record {
        depth = omega arith;
        stack = ap (drop 1) (sym taken ∙ is);
        long = whole;
      }

  with-one : s.depth < slot_count → StackAfter s old slot 3
  with-one room = record {
    depth = omega arith;
    stack =
        rw (add-one s.depth, take-suc-set s.stack s.depth slot (rw whole room))
        (reverse-append (take s.depth s.stack) (slot ∷ []) ∙ ap (λ (xs : List ℕ). slot ∷ xs) is);
    long = length-set s.stack s.depth slot ∙ whole;
  }

  alone : StackAfter s old slot 4
  alone = record {
    depth = refl;
    stack = ap reverse (take-suc-set s.stack 0 slot (rw whole (omega arith)));
    long = length-set s.stack 0 slot ∙ whole;
  }

module _ {s : State} {l : Model} {j : Job} (k : StateStands s l) (job : JobStands l.start.cpus s.job j) (sound : Sound l) (good : SoundJob l j) where
  abbrev new_stack : List ℕ
  new_stack = model.stack_after j.action j.slot l.stack

  -- "those on the stack are applied, the others checked"
  abbrev new_status : Loaded → Loaded
  new_status p = model.with_status (cond (model.is_applied new_stack p) 2 1) p

  -- the payload's place
  place : (i : ℕ) × (model.with_slot l j.slot ≡ Some i)
  place = by-found (model.with_slot l j.slot) refl good.loaded
    where
      by-found : (f : Option ℕ) → model.with_slot l j.slot ≡ f → is_found f ≡ true → (i : ℕ) × (model.with_slot l j.slot ≡ Some i)
      by-found (Some i) e h = (i, e)
      by-found None e h =
          let never : ◌≡◌ {A = ℕ} 0 1 = cc in
          absurd (omega arith)

  abbrev depth_now : ℕ
  depth_now = depth_for s j.action

  abbrev stack_now : List ℕ
  stack_now = stack_for s j.action j.slot

  stack_set : stepping.stack_set s ≡ with_stack depth_now stack_now s
  unfolding stepping.stack_set
  stack_set =
      ap₂
      (λ (a slot : ℕ).
      cond (eqb a revert) (with_stack (s.depth - 1) s.stack s)
      (cond (eqb a apply) (with_stack (s.depth + 1) (set s.stack s.depth slot) s)
      (with_stack 1 (set s.stack 0 slot) s)))
      job.action job.slot
      ∙ stack-set-by s (eqb j.action revert) (eqb j.action apply) _ _ _ _ _ _

  -- a payload that is not on the stack has room on it
  room : Missing j.slot l.stack → s.depth < slot_count
  unfolding model.with_slot
  room missing =
      omega (
        arith,
        no-more-slots (j.slot ∷ l.stack) l.payloads (missing, sound.different) (good.loaded, sound.stacked),
        few-payloads l.start l.payloads sound.payloads sound.apart,
        k.depth,
      )

  stack-after : StackAfter s l.stack j.slot j.action
  stack-after =
      by-action (λ a. j.action ≡ a → StackAfter s l.stack j.slot a) j.action good.action_low good.action_high
      (λ e. without-top s l.stack j.slot k.depth k.stack k.stack_whole (reverted good e))
      (λ e. with-one s l.stack j.slot k.depth k.stack k.stack_whole (room (good.new (λ f. omega arith))))
      (λ e. alone s l.stack j.slot k.depth k.stack k.stack_whole)
      refl

  -- ---- the payloads

  -- all are checked where the job replaces
  abbrev lowered : Bool → Payload → Payload
  lowered t p = with_status (cond t checked p.status) p

  abbrev all-lowered : Bool → List Payload
  all-lowered t = cond t (map (with_status checked) (loaded s) ++ drop s.count s.payloads) s.payloads

  abbrev replaces : Bool
  replaces = eqb s.job.action replace

  count-loaded : length (loaded s) ≡ s.count
  count-loaded = ap length k.payloads ∙ rw length-map (sym k.count)

  loaded-lowered : (t : Bool) → take s.count (all-lowered t) ≡ map (lowered t) (loaded s)
  loaded-lowered true = take_at (map (with_status checked) (loaded s)) (drop s.count s.payloads) s.count (rw length-map count-loaded)
  loaded-lowered false = sym (map_same (loaded s))

  length-lowered : (t : Bool) → length (all-lowered t) ≡ length s.payloads
  length-lowered true =
      simp (length-append, length-map, length-drop, length-take) (omega arith)
  length-lowered false = refl

  -- by the model's
  records-lowered : (t : Bool) → take s.count (all-lowered t) ≡ map (λ q. lowered t (record_of q)) l.payloads
  records-lowered t = loaded-lowered t ∙ ap (map (lowered t)) k.payloads ∙ map-map (lowered t) record_of l.payloads

  lowered-at : (t : Bool) (m : ℕ) → m < length l.payloads → get_or (all-lowered t) m empty ≡ lowered t (record_of (get_or l.payloads m no_payload))
  lowered-at t m h =
      let short : m < s.count = omega (arith, k.count) in
      sym (get_or-take s.count (all-lowered t) m empty short)
      ∙ ap (λ (ps : List Payload). get_or ps m empty) (records-lowered t)
      ∙ get_d_default (map (λ q. lowered t (record_of q)) l.payloads) m empty (lowered t (record_of no_payload)) (rw length-map h)
      ∙ get_or-map (λ q. lowered t (record_of q)) l.payloads m no_payload

  taken-down : (d : ℕ) (st : List ℕ) → stepping.taken_down (with_stack d st s) ≡ with_payloads (all-lowered replaces) (with_stack d st s)
  unfolding stepping.all_checked
  taken-down d st = by_cases replaces
    where
      by_cases : (t : Bool) → cond t (stepping.all_checked (with_stack d st s)) (with_stack d st s) ≡ with_payloads (all-lowered t) (with_stack d st s)
      by_cases true = refl
      by_cases false = refl

  slot-lowered : (d : ℕ) (st : List ℕ) → find.with_slot (with_payloads (all-lowered replaces) (with_stack d st s)) s.job.slot ≡ model.with_slot l j.slot
  unfolding find.with_slot
  slot-lowered d st =
      ap (first_where (find.is_in s.job.slot)) (loaded-lowered replaces)
      ∙ where-map (find.is_in s.job.slot) (lowered replaces) 0 (loaded s)
      ∙ with-slot k s.job.slot
      ∙ ap (model.with_slot l) job.slot

  module _ (i : ℕ) (at : model.with_slot l j.slot ≡ Some i) where
    abbrev p : Loaded
    p = get_or l.payloads i no_payload

    abbrev payloads_now : List Payload
    payloads_now = set (all-lowered replaces) i (stepping.finished s.job.action (get_or (all-lowered replaces) i empty))

    -- the state when the job has ended
    abbrev state_now : State
    state_now =
        record {
          config = s.config;
          version = s.version;
          count = s.count;
          payloads = payloads_now;
          depth = depth_now;
          stack = stack_now;
          job = no_job;
        }

    ended-state : stepping.ended s ≡ state_now
    unfolding stepping.ended stepping.statuses_set state.changed_in
    ended-state =
        ap (λ (x : State). with_job no_job (stepping.statuses_set x)) stack_set
        ∙ ap (λ (x : State). with_job no_job (state.changed_in (stepping.finished s.job.action) x s.job.slot)) (taken-down depth_now stack_now)
        ∙ ap
        (λ (f : Option ℕ). with_job no_job (state.changed_found (stepping.finished s.job.action) (with_payloads (all-lowered replaces) (with_stack depth_now stack_now s)) f))
        (slot-lowered depth_now stack_now ∙ at)

    -- and the model
    abbrev model_now : List Laid → Model
    model_now xs =
        record {
          start = l.start;
          version = l.version;
          payloads = model.with_statuses new_stack (set l.payloads i (model.with_result 0 p));
          stack = new_stack;
          laid = xs;
          job = None;
        }

    ended-model : (xs : List Laid) → model.ended (model.with_laid xs l) j ≡ model_now xs
    unfolding model.with_slot
    ended-model xs =
        ap
        (λ (f : Option ℕ).
        let settled : Model = model.changed_found (model.with_result 0) (model.with_laid xs l) f in
        model.with_job None (model.with_stack new_stack (model.with_payloads (model.with_statuses new_stack settled.payloads) settled)))
        at

    inside : i < length l.payloads
    inside = slot_counted k j.slot i at

    own-slot : p.slot ≡ j.slot
    unfolding model.with_slot
    own-slot = eqb-true _ _ (first-hit (λ (q : Loaded). eqb q.slot j.slot) l.payloads no_payload i at).1

    -- what is kept of the payload itself
    own-record : stepping.finished s.job.action (get_or (all-lowered replaces) i empty) ≡ record_of (new_status (model.with_result 0 p))
    unfolding record_of
    own-record =
        ap (stepping.finished s.job.action) (lowered-at replaces i inside)
        ∙ ap (λ (n : ℕ). with_status n (with_result 0 (record_of p)))
        (ap (λ (a : ℕ). cond (eqb a revert) checked applied) job.action
        ∙ own-status j.slot l.stack j.action good.action_low good.action_high (reverted good) sound.different p own-slot)

    -- and of another
    other-record :
        (m : ℕ) → m < length l.payloads → (m ≡ i → ⊥) →
        lowered replaces (record_of (get_or l.payloads m no_payload)) ≡ record_of (new_status (get_or l.payloads m no_payload))
    unfolding record_of
    other-record m h other =
        let q : Loaded = get_or l.payloads m no_payload in
        ap (λ (n : ℕ). with_status n (record_of q))
        (ap (λ (a : ℕ). cond (eqb a replace) checked q.status) job.action
        ∙ other-status j.slot l.stack j.action good.action_low good.action_high (reverted good) q
        (λ e. apart-at l.payloads sound.apart i m inside h other (e ∙ sym own-slot))
        (all-at _ l.payloads sound.statuses m no_payload h))

    payloads-now : take s.count payloads_now ≡ map record_of (model.with_statuses new_stack (set l.payloads i (model.with_result 0 p)))
    payloads-now =
        let short : i < s.count = omega (arith, inside, k.count) in
        take-set-lt s.count (all-lowered replaces) i _ short
        ∙ ap₂ (λ (ps : List Payload) (q : Payload). set ps i q) (records-lowered replaces) own-record
        ∙ set-maps (λ q. lowered replaces (record_of q)) (λ q. record_of (new_status q)) l.payloads i _ no_payload other-record
        ∙ sym
        (map-map record_of new_status (set l.payloads i (model.with_result 0 p))
        ∙ map-set (λ q. record_of (new_status q)) l.payloads i (model.with_result 0 p))

    -- so the one stands for the other
    state-stands : (xs : List Laid) → StateStands state_now (model_now xs)
    state-stands xs = record {
      config = k.config;
      version = k.version;
      count = k.count ∙ sym (length-map (set l.payloads i (model.with_result 0 p)) new_status ∙ length-set l.payloads i (model.with_result 0 p));
      payloads = payloads-now;
      depth = stack-after.depth;
      stack = stack-after.stack;
      job = refl;
      payloads_whole = length-set (all-lowered replaces) i _ ∙ length-lowered replaces ∙ k.payloads_whole;
      stack_whole = stack-after.long;
      held_whole = length-replicate cpus_max false;
    }

    -- a store of the payloads' bytes stays
    store-stays :
        (n : ℕ) (bytes : Loaded → List ℕ) → ((q : Loaded) → bytes (new_status q) ≡ bytes q) → bytes (model.with_result 0 p) ≡ bytes p →
        store_of n bytes (model.with_statuses new_stack (set l.payloads i (model.with_result 0 p))) ≡ store_of n bytes l.payloads
    store-stays n bytes status result =
        store-map n bytes new_status (set l.payloads i (model.with_result 0 p)) (λ q. refl) status
        ∙ store-set n bytes l.payloads i (model.with_result 0 p) refl result

-- the loader after a step: another state, and text and undo store
abbrev pub with_written : State → List ℕ → List ℕ → Loader → Loader
with_written s text undo u =
    record { state = s; text = text; arena = u.arena; undo = undo; ids = u.ids; build_id = u.build_id }

pub ended-stands :
    {u : Loader} {l : Model} {j : Job} → Stands u l → JobStands l.start.cpus u.state.job j → Sound l → SoundJob l j →
    (xs : List Laid) (text undo : List ℕ) → text ≡ text_with l.start.text xs → undo ≡ undo_with l.start.text xs →
    Stands (with_written (stepping.ended u.state) text undo u) (model.ended (model.with_laid xs l) j)
ended-stands {u} {l} {j} k job sound good xs text undo is-text is-undo =
    let found = place k.state job sound good in
    let i : ℕ = found.0 in
    let at : model.with_slot l j.slot ≡ Some i = found.1 in
    subst (λ (m : Model). Stands (with_written (stepping.ended u.state) text undo u) m) (sym (ended-model k.state job sound good i at xs))
    (subst (λ (s : State). Stands (with_written s text undo u) (model_now k.state job sound good i at xs)) (sym (ended-state k.state job sound good i at))
    (record {
      accepted = k.accepted;
      state = state-stands k.state job sound good i at xs;
      text = is-text;
      arena = k.arena ∙ sym (store-stays k.state job sound good i at placed_max (λ q. q.image) (λ q. refl) refl);
      undo = is-undo;
      ids = k.ids ∙ sym (store-stays k.state job sound good i at id_max (λ q. padded id_max q.id) (λ q. refl) refl);
      build_id = k.build_id;
    }))
