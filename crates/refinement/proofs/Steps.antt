-- The steps of a job that stands for the model's: its removals take the newest laid edits off, and its layings lay the payload's edits in order.
use Prim.Native.Nat.{ℕ, zero, suc, ◌+◌, ◌-◌, ◌≤◌, ◌<◌, min}
use mathlib.Core.Path.{◌≡◌, refl, sym, ap, ◌∙◌}
use mathlib.Core.Bool.{Bool, true, false, cond, ◌||◌}
use mathlib.Core.List.{List, [], ◌∷◌, ◌++◌, map, reverse, append-nil}
use native.Mathlib.Nat.{zero-add}
use native.Mathlib.Omega.{arith}
use borrow.Author.Tests.{eqb-true}
use lib.Dec.{eqb}
use lib.ListN.{length, get_or, drop, replicate, length-append, length-map, get_or-map, get_or-append}
use lib.Seq.{drop-cons, get_or-append-add}
use Rattle.words.specs.Name.{is_found}
use Rattle.words.specs.Scan.{scan, each}
use Rattle.words.proofs.Scan.{length-each, get_or-each}
use Rattle.words.proofs.Splice.{get_d_default}
use Rattle.records.specs.Payload.{no_edit}
use Rattle.state.specs.Find as state
use Rattle.state.specs.State.{stack_of}
use Rattle.state.specs.Steps as steps
use Rattle.state.specs.declared.state.State.{State}
use Rattle.state.specs.declared.steps.Step.{Step}
use Rattle.model.specs.Model.{Loaded, Laid, Job, Model}
use Rattle.model.specs.Step.{with_slot, payload_in, is_top, laid_from, edit_count, removal_count, laying_count}
use Rattle.steps.specs.Next.{no_step, step_now}
use Rattle.invariant.specs.Done.{first_edits, all_edits, stack_edits, done_after}
use Rattle.invariant.specs.Sound.{SoundJob}
use Rattle.invariant.proofs.Edits.{first-none, length-first, edits-in, count-in}
use Rattle.invariant.proofs.Slots as slots
use Rattle.refinement.specs.Stands.{record_of, StateStands, JobStands}
use Rattle.refinement.proofs.InRange.{by-action}
use Rattle.refinement.proofs.Lookups.{payload-in}

-- ---- lists

-- an element, whether or not it is past the end, where the rest is filled with what stands for no element
get_or-filled-up : {A : Type 0} (xs : List A) (m i : ℕ) (d : A) → get_or (xs ++ replicate m d) i d ≡ get_or xs i d
get_or-filled-up [] m i d = same m i
  where
    same : (m i : ℕ) → get_or (replicate m d) i d ≡ d
    same zero i = refl
    same (suc m) zero = refl
    same (suc m) (suc i) = same m i
get_or-filled-up (x ∷ xs) m zero d = refl
get_or-filled-up (x ∷ xs) m (suc i) d = get_or-filled-up xs m i d

each-mapped : {A B : Type 0} (f : ℕ → B) (g : A → B) (h : ℕ → A) → ((j : ℕ) → f j ≡ g (h j)) → (i k : ℕ) → each f i k ≡ map g (each h i k)
unfolding scan
each-mapped f g h e i zero = refl
each-mapped f g h e i (suc k) = rw (e i, each-mapped f g h e (suc i) k)

map-append : {A B : Type 0} (f : A → B) (xs ys : List A) → map f (xs ++ ys) ≡ map f xs ++ map f ys
map-append f [] ys = refl
map-append f (x ∷ xs) ys = rw (map-append f xs ys)

-- ---- a payload's steps

-- the step that lays an edit, or takes it off
abbrev pub step_of : Bool → Laid → Step
step_of lays x = record { lays = lays; slot = x.slot; number = x.number; edit = x.edit }

step-for : (lays : Bool) (p : Loaded) (r : ℕ) → steps.step_for lays (record_of p) r ≡ step_of lays (laid_from p r)
unfolding record_of
step-for lays p r = rw (get_or-filled-up p.edits _ r no_edit)

-- a payload's edits in order
abbrev in_order : Loaded → List Laid
in_order p = each (laid_from p) 0 (length p.edits)

layings-are : (p : Loaded) → steps.layings (record_of p) ≡ map (step_of true) (in_order p)
unfolding steps.layings record_of
layings-are p = each-mapped (steps.step_for true (record_of p)) (step_of true) (laid_from p) (step-for true p) 0 (length p.edits)

removals-are : (p : Loaded) → steps.removals (record_of p) ≡ map (step_of false) (all_edits p)
unfolding steps.removals first_edits record_of
removals-are p =
    let n : ℕ = length p.edits in
    each-mapped _ (step_of false) (λ i. laid_from p (n - 1 - i)) (λ i. step-for false p (n - 1 - i)) 0 n

length-all-edits : (p : Loaded) → length (all_edits p) ≡ length p.edits
length-all-edits p = length-first p (length p.edits)

length-stack-edits : (l : Model) (slots : List ℕ) → length (stack_edits l slots) ≡ edit_count l slots
length-stack-edits l slots = ap length (edits-in l slots) ∙ sym (count-in l slots)

-- ---- a job's steps

abbrev no_laid : Laid
no_laid = record { slot = 0; number = 0; edit = no_edit }

-- the edits that it takes off, the newest first, and those that it lays
abbrev removed : Model → Job → List Laid
removed l j =
    cond (eqb j.action 2) (all_edits (payload_in l j.slot))
    (cond (eqb j.action 4) (stack_edits l l.stack)
    [])

abbrev added : Model → Job → List Laid
added l j = cond (eqb j.action 2) [] (in_order (payload_in l j.slot))

-- where two tests agree
either_way :
    {A B : Type 0} (f : A → B) {t t' : Bool} (x y : A) (x' y' : B) → t ≡ t' → f x ≡ x' → f y ≡ y' → f (cond t x y) ≡ cond t' x' y'
either_way f {t} x y x' y' same e e' = rw (← same) (by_cases t)
  where
    by_cases : (t : Bool) → f (cond t x y) ≡ cond t x' y'
    by_cases true = e
    by_cases false = e'

length_removed : (l : Model) (j : Job) → length (removed l j) ≡ removal_count l j
length_removed l j =
    either_way length {t = eqb j.action 2} _ _ _ _ refl (length-all-edits (payload_in l j.slot))
    (either_way length {t = eqb j.action 4} _ _ _ _ refl (length-stack-edits l l.stack) refl)

length-added : (l : Model) (j : Job) → length (added l j) ≡ laying_count l j
length-added l j =
    either_way length {t = eqb j.action 2} [] _ _ _ refl refl
    (length-each (laid_from (payload_in l j.slot)) 0 (length (payload_in l j.slot).edits))

added-at : (l : Model) (j : Job) (i : ℕ) → i < laying_count l j → get_or (added l j) i no_laid ≡ laid_from (payload_in l j.slot) i
added-at l j i h = by_cases (eqb j.action 2) h
  where
    p : Loaded
    p = payload_in l j.slot

    by_cases : (t : Bool) → i < cond t 0 (length p.edits) → get_or (cond t [] (in_order p)) i no_laid ≡ laid_from p i
    by_cases true h = absurd (omega arith)
    by_cases false h = get_or-each (laid_from p) 0 (length p.edits) i no_laid h ∙ rw (zero-add i)

step-at : (lays : Bool) (xs : List Laid) (i : ℕ) → i < length xs → get_or (map (step_of lays) xs) i no_step ≡ step_of lays (get_or xs i no_laid)
step-at lays xs i h =
    get_d_default (map (step_of lays) xs) i no_step (step_of lays no_laid) (rw length-map h) ∙ get_or-map (step_of lays) xs i no_laid

-- all but a revert lay
laid-unless :
    (action : ℕ) → 2 ≤ action → action ≤ 4 → (ks : List Step) (xs : List Laid) → ks ≡ map (step_of true) xs →
    cond (eqb action 3 || eqb action 4) ks [] ≡ map (step_of true) (cond (eqb action 2) [] xs)
laid-unless action low high ks xs own =
    by-action (λ a. cond (eqb a 3 || eqb a 4) ks [] ≡ map (step_of true) (cond (eqb a 2) [] xs)) action low high refl own own

-- the payload in a slot is of that slot
slot-of-found : (l : Model) (slot : ℕ) → is_found (with_slot l slot) ≡ true → (payload_in l slot).slot ≡ slot
slot-of-found l slot h =
    ap (λ (p : Loaded). p.slot) (slots.payload-in l slot) ∙ slots.slot-in slot l.payloads (sym (slots.slot-holds l slot) ∙ h)

top-first : (stack : List ℕ) (p : Loaded) → is_top stack p ≡ true → stack ≡ p.slot ∷ drop 1 stack
top-first [] p h =
    let never : ◌≡◌ {A = ℕ} 0 1 = cc in
    absurd (omega arith)
top-first (slot ∷ older) p h =
    let same : slot ≡ p.slot = eqb-true _ _ h in
    rw same

module _ {l : Model} {j : Job} (sound : SoundJob l j) where
  -- a revert is of the top payload
  pub reverted : j.action ≡ 2 → l.stack ≡ j.slot ∷ drop 1 l.stack
  reverted e = top-first l.stack (payload_in l j.slot) (sound.top e) ∙ rw (slot-of-found l j.slot sound.loaded)

  -- the edits of the stack begin with those that are taken off
  stack-begins : (rest : List Laid) × (stack_edits l l.stack ≡ removed l j ++ rest)
  unfolding stack_edits
  stack-begins =
      by-action (λ a. j.action ≡ a → (rest : List Laid) × (stack_edits l l.stack ≡ removed l j ++ rest))
      j.action sound.action_low sound.action_high
      (λ e. (stack_edits l (drop 1 l.stack), ap (stack_edits l) (reverted e) ∙ rw e))
      (λ e. (stack_edits l l.stack, rw e))
      (λ e. ([], rw e (sym (append-nil _))))
      refl

module _ {s : State} {l : Model} {j : Job} (k : StateStands s l) (job : JobStands l.start.cpus s.job j) where
  removals-in : (slots : List ℕ) → steps.removals_in s slots ≡ map (step_of false) (stack_edits l slots)
  unfolding steps.removals_in stack_edits
  removals-in [] = refl
  removals-in (slot ∷ older) =
      rw (payload-in k slot, removals-are (payload_in l slot), removals-in older)
      (sym (map-append (step_of false) (all_edits (payload_in l slot)) (stack_edits l older)))

  job-payload : state.payload_in s s.job.slot ≡ record_of (payload_in l j.slot)
  job-payload = ap (state.payload_in s) job.slot ∙ payload-in k j.slot

  same_test : (n : ℕ) → eqb j.action n ≡ eqb s.job.action n
  same_test n = ap (λ (a : ℕ). eqb a n) (sym job.action)

  removing-are : steps.removing s ≡ map (step_of false) (removed l j)
  unfolding steps.removing
  removing-are =
      let own : steps.removals (state.payload_in s s.job.slot) ≡ map (step_of false) (all_edits (payload_in l j.slot)) =
      ap steps.removals job-payload ∙ removals-are (payload_in l j.slot) in
      let all : steps.removals_in s (reverse (stack_of s)) ≡ map (step_of false) (stack_edits l l.stack) =
      ap (steps.removals_in s) k.stack ∙ removals-in l.stack in
      sym (either_way (map (step_of false)) _ _ _ _ (same_test 2) (sym own)
      (either_way (map (step_of false)) _ _ _ _ (same_test 4) (sym all) refl))

  module _ (sound : SoundJob l j) where
    laying-are : steps.laying s ≡ map (step_of true) (added l j)
    unfolding steps.laying
    laying-are =
        let own : steps.layings (state.payload_in s s.job.slot) ≡ map (step_of true) (in_order (payload_in l j.slot)) =
        ap steps.layings job-payload ∙ layings-are (payload_in l j.slot) in
        ap (λ (a : ℕ). cond (eqb a 3 || eqb a 4) (steps.layings (state.payload_in s s.job.slot)) []) job.action
        ∙ laid-unless j.action sound.action_low sound.action_high _ _ own

    steps-are : steps.steps_of s ≡ map (step_of false) (removed l j) ++ map (step_of true) (added l j)
    steps-are = rw (removing-are, laying-are)

    now-is : step_now s ≡ get_or (map (step_of false) (removed l j) ++ map (step_of true) (added l j)) j.steps no_step
    unfolding step_now
    now-is =
        ap (λ (i : ℕ). get_or (steps.steps_of s) i no_step) job.steps
        ∙ ap (λ (ks : List Step). get_or ks j.steps no_step) steps-are

    -- a step that takes an edit off: it is the newest that is laid
    pub taking :
        l.laid ≡ done_after l j j.steps → j.steps < removal_count l j →
        (x : Laid) × (older : List Laid) × (l.laid ≡ x ∷ older) × (step_now s ≡ step_of false x)
    unfolding done_after
    taking done h =
        let begins = stack-begins sound in
        let all : List Laid = stack_edits l l.stack in
        let short : j.steps < length (removed l j) = omega (arith, length_removed l j) in
        let whole : length all ≡ length (removed l j) + length begins.0 = ap length begins.1 ∙ length-append (removed l j) begins.0 in
        let inside : j.steps < length all = omega arith in
        let none : j.steps - removal_count l j ≡ 0 = omega arith in
        let all-k : min j.steps (removal_count l j) ≡ j.steps = omega arith in
        let x : Laid = get_or (removed l j) j.steps no_laid in
        let here : get_or all j.steps no_laid ≡ x =
        ap (λ (xs : List Laid). get_or xs j.steps no_laid) begins.1
        ∙ get_or-append (removed l j) begins.0 no_laid j.steps short in (
          x,
          drop (suc j.steps) all,
          done ∙ rw (none, all-k, first-none (payload_in l j.slot)) (drop-cons all j.steps no_laid inside ∙ rw here),
          now-is
              ∙ get_or-append (map (step_of false) (removed l j)) (map (step_of true) (added l j)) no_step j.steps (rw length-map short)
              ∙ step-at false (removed l j) j.steps short,
        )

    -- a step that lays one: it is the next of the job's payload
    pub laying-now :
        removal_count l j ≤ j.steps → step_now s ≡ step_of true (laid_from (payload_in l j.slot) (j.steps - removal_count l j))
    laying-now h =
        let i : ℕ = j.steps - removal_count l j in
        let left : i < laying_count l j = omega (arith, sound.steps) in
        let place : j.steps ≡ length (map (step_of false) (removed l j)) + i = rw (length-map, length_removed l j) (omega arith) in
        now-is
        ∙ ap (λ (n : ℕ). get_or (map (step_of false) (removed l j) ++ map (step_of true) (added l j)) n no_step) place
        ∙ get_or-append-add (map (step_of false) (removed l j)) (map (step_of true) (added l j)) i no_step
        ∙ step-at true (added l j) i (rw (length-added l j) left)
        ∙ ap (step_of true) (added-at l j i left)
