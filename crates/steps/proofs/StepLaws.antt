-- A job's steps one by one: those of one payload, of the payloads of the stack from the newest on, and the removals before the layings.
use Prim.Native.Nat.{ℕ, zero, suc, ◌+◌, ◌*◌, ◌-◌, ◌≤◌, ◌<◌}
use mathlib.Core.Path.{◌≡◌, refl, sym, ap, ◌∙◌}
use mathlib.Core.Bool.{Bool, true, false, cond, ◌||◌}
use mathlib.Core.List.{List, [], ◌∷◌, ◌++◌, reverse, reverse-append}
use native.Mathlib.Nat.{zero-add}
use native.Mathlib.Omega.{arith}
use borrow.Author.Tests.{ltb-true, ltb-false}
use lib.Dec.{ltb, eqb}
use lib.ListN.{length, get_or, take, length-append, get_or-append}
use lib.Seq.{get_or-append-add, take-suc}
use Rattle.words.proofs.Scan.{get_or-each}
use Rattle.records.specs.Limits.{records_max}
use Rattle.records.specs.declared.payload.Payload.{Payload}
use Rattle.memory.specs.Memory.{slot_count}
use Rattle.state.specs.Find.{payload_in}
use Rattle.state.specs.State.{revert, apply, replace, stack_of}
use Rattle.state.specs.Steps.{step_for, layings, removals, removals_in, removing, laying, step_count}
use Rattle.state.specs.declared.state.State.{State}
use Rattle.state.specs.declared.steps.Step.{Step}
use Rattle.state.proofs.StepLaws.{length-layings, length-removals, length-removals-none}
use Rattle.state.proofs.Whole.{Whole}
use Rattle.outlines.specs.Outline.{Outlines}
use Rattle.outlines.specs.declared.outline.Outline.{Outline}
use Rattle.ranges.proofs.Laws.{PayloadInRange, JobInRange, InRange, taken-in-range}
use Rattle.steps.specs.Next.{no_step, step_now}

-- ---- two lists, one after the other

module _ (a b : List Step) (k : ℕ) where
  of-first : k < length a → get_or (a ++ b) k no_step ≡ get_or a k no_step
  of-first h = get_or-append a b no_step k h

  of-second : (n : ℕ) → length a ≡ n → n ≤ k → get_or (a ++ b) k no_step ≡ get_or b (k - n) no_step
  of-second n e h =
      let place : k ≡ length a + (k - n) = omega arith in
      ap (λ (i : ℕ). get_or (a ++ b) i no_step) place ∙ get_or-append-add a b (k - n) no_step

-- ---- one payload

module _ (p : Payload) (k : ℕ) (below : k < p.edit_count) where
  laying-step : step_for true p k ≡ get_or (layings p) k no_step
  unfolding layings
  laying-step = sym (get_or-each (step_for true p) 0 p.edit_count k no_step below ∙ ap (step_for true p) (zero-add k))

  removal-step : step_for false p (p.edit_count - 1 - k) ≡ get_or (removals p) k no_step
  unfolding removals
  removal-step =
      let back : ℕ → Step = λ j. step_for false p (p.edit_count - 1 - j) in
      sym (get_or-each back 0 p.edit_count k no_step below ∙ ap back (zero-add k))

-- ---- the stack, the newest payload first

module _ (s : State) where
  -- payload i of the stack, and the removals of the first i
  abbrev pub stacked : ℕ → Payload
  stacked i = payload_in s (get_or s.stack i 0)

  abbrev pub stacked_in : ℕ → List Step
  stacked_in i = removals_in s (reverse (take i s.stack))

  pub none-stacked : length (stacked_in 0) ≡ 0
  none-stacked = length-removals-none s

  module _ (i : ℕ) (deep : i < length s.stack) where
    one_more : stacked_in (suc i) ≡ removals (stacked i) ++ stacked_in i
    unfolding removals_in
    one_more = rw (take-suc s.stack i 0 deep, reverse-append (take i s.stack) (get_or s.stack i 0 ∷ []))

    pub length-stacked : length (stacked_in (suc i)) ≡ (stacked i).edit_count + length (stacked_in i)
    length-stacked = rw (one_more, length-append, length-removals (stacked i))

    -- the newest payload's, or an older one's
    pub newest-step :
        (k : ℕ) → k < (stacked i).edit_count →
        step_for false (stacked i) ((stacked i).edit_count - 1 - k) ≡ get_or (stacked_in (suc i)) k no_step
    newest-step k below =
        let inside : k < length (removals (stacked i)) = rw (length-removals (stacked i)) below in
        removal-step (stacked i) k below
        ∙ sym (ap (λ (l : List Step). get_or l k no_step) one_more ∙ of-first (removals (stacked i)) (stacked_in i) k inside)

    pub older-step :
        (k : ℕ) → (stacked i).edit_count ≤ k → get_or (stacked_in (suc i)) k no_step ≡ get_or (stacked_in i) (k - (stacked i).edit_count) no_step
    older-step k past =
        ap (λ (l : List Step). get_or l k no_step) one_more ∙ of-second (removals (stacked i)) (stacked_in i) k _ (length-removals (stacked i)) past

-- ---- the job's next step

module _ (s : State) where
  abbrev its : Payload
  its = payload_in s s.job.slot

  count-steps : step_count s ≡ length (removing s) + length (laying s)
  count-steps = length-append (removing s) (laying s)

  -- past the removals, it lays the edits of its payload
  lays-if :
      (t : Bool) → (eqb s.job.action apply || eqb s.job.action replace) ≡ t → s.job.steps < step_count s →
      length (removing s) ≤ s.job.steps → laying s ≡ layings its
  unfolding laying
  lays-if true e steps h = rw e
  lays-if false e steps h =
      let none : length (laying s) ≡ 0 = rw e in
      absurd (omega (arith, steps, count-steps))

  pub laying-next :
      s.job.steps < step_count s → length (removing s) ≤ s.job.steps →
      let k = s.job.steps - length (removing s) in (k < its.edit_count) × (step_for true its k ≡ step_now s)
  unfolding step_now
  laying-next steps h =
      let k = s.job.steps - length (removing s) in
      let all : laying s ≡ layings its = lays-if _ refl steps h in
      let many : length (laying s) ≡ its.edit_count = rw all (length-layings its) in
      let below : k < its.edit_count = omega (arith, steps, count-steps, many) in
      (below, laying-step its k below ∙ sym (of-second (removing s) (laying s) s.job.steps _ refl h ∙ rw all))

  -- before, a revert takes off those of its payload, and a replace those of all applied ones
  pub reverting-next :
      eqb s.job.action revert ≡ true → s.job.steps < length (removing s) →
      let k = length (removing s) - 1 - s.job.steps in (k < its.edit_count) × (step_for false its k ≡ step_now s)
  unfolding step_now removing
  reverting-next e h =
      let all : removing s ≡ removals its = rw e in
      let many : length (removing s) ≡ its.edit_count = rw all (length-removals its) in
      let below : s.job.steps < its.edit_count = omega (arith, many) in
      let back : length (removing s) - 1 - s.job.steps ≡ its.edit_count - 1 - s.job.steps = omega (arith, many) in (
        omega (arith, many),
        ap (step_for false its) back
            ∙ removal-step its s.job.steps below
            ∙ sym (of-first (removing s) (laying s) s.job.steps h ∙ rw all),
      )

  replaces-if :
      (t : Bool) → eqb s.job.action replace ≡ t → eqb s.job.action revert ≡ false → s.job.steps < length (removing s) →
      removing s ≡ stacked_in s s.depth
  unfolding removing
  replaces-if true e f h = rw (f, e)
  replaces-if false e f h =
      let none : length (removing s) ≡ 0 = rw (f, e) in
      absurd (omega (arith, none))

  pub replacing :
      eqb s.job.action revert ≡ false → s.job.steps < length (removing s) → removing s ≡ removals_in s (reverse (stack_of s))
  replacing f h = replaces-if _ refl f h

  pub replacing-next :
      removing s ≡ removals_in s (reverse (stack_of s)) → s.job.steps < length (removing s) →
      (s.job.steps < length (stacked_in s s.depth)) × (get_or (stacked_in s s.depth) s.job.steps no_step ≡ step_now s)
  unfolding step_now
  replacing-next all h = (rw all at h, sym (of-first (removing s) (laying s) s.job.steps h ∙ rw all))

-- ---- taking off payloads of the stack, one after the other

-- the next step is removal k of the first i payloads
abbrev pub Left : State → ℕ → ℕ → Type 0
Left s i k = (k < length (stacked_in s i)) × (get_or (stacked_in s i) k no_step ≡ step_now s)

-- a state with this outline whose job is to take off more of the stack
abbrev pub Removes : Outline → State → Type 0
Removes o s = Outlines o s × (removing s ≡ removals_in s (reverse (stack_of s))) × (s.job.steps < length (removing s))

-- the newest of i + 1 payloads, of n records
module _ (s : State) (i k n : ℕ) (deep : i < length s.stack) (count : n ≡ (stacked s i).edit_count) (left : Left s (suc i) k) where
  pub of-newest : k < n → step_for false (stacked s i) (n - 1 - k) ≡ step_now s
  of-newest h = rw count (newest-step s i deep k (omega (arith, count)) ∙ left.1)

  pub of-older : n ≤ k → Left s i (k - n)
  of-older h =
      rw count (
        omega (arith, left.0, count, length-stacked s i deep),
        sym (older-step s i deep k (omega (arith, count))) ∙ left.1,
      )

-- ---- how many steps, and of what records, in a state whose numbers are in their ranges

-- a step is of a record of a payload in range
pub record OfRecord (s : State) (k : Step) : Type 0 where
  pub lays : Bool
  pub payload : Payload
  pub number : ℕ
  pub same : k ≡ step_for lays payload number
  pub ranged : PayloadInRange s.config payload
  pub below : number < payload.edit_count

module _ {s : State} (w : Whole s) (r : InRange s) where
  deep : (i : ℕ) → i < s.depth → i < length s.stack
  deep i h = omega (arith, r.few, r.shallow, w.stack)

  applied-payload : (i : ℕ) → i < s.depth → PayloadInRange s.config (stacked s i)
  applied-payload i h = (taken-in-range r _ (r.stack i h)).0

  stacked-few : (i : ℕ) → i ≤ s.depth → length (stacked_in s i) ≤ records_max * i
  stacked-few zero h = rw (none-stacked s) (omega arith)
  stacked-few (suc i) h = rw (length-stacked s i (deep i h)) (omega (arith, stacked-few i (omega arith), (applied-payload i h).edits_max))

  either-record :
      (i k : ℕ) (h : i < s.depth) (t : Bool) → ltb k (stacked s i).edit_count ≡ t → k < length (stacked_in s (suc i)) →
      ((k : ℕ) → k < length (stacked_in s i) → OfRecord s (get_or (stacked_in s i) k no_step)) → OfRecord s (get_or (stacked_in s (suc i)) k no_step)
  either-record i k h true e g older =
      let here : k < (stacked s i).edit_count = ltb-true _ _ e in
      record {
        lays = false;
        payload = stacked s i;
        number = (stacked s i).edit_count - 1 - k;
        same = sym (newest-step s i (deep i h) k here);
        ranged = applied-payload i h;
        below = omega arith;
      }
  either-record i k h false e g older =
      let past : (stacked s i).edit_count ≤ k = ltb-false _ _ e in
      rw (older-step s i (deep i h) k past) (older (k - (stacked s i).edit_count) (omega (arith, length-stacked s i (deep i h))))

  stacked-record : (i : ℕ) → i ≤ s.depth → (k : ℕ) → k < length (stacked_in s i) → OfRecord s (get_or (stacked_in s i) k no_step)
  stacked-record zero h k g = absurd (omega (arith, none-stacked s))
  stacked-record (suc i) h k g = either-record i k h (ltb k (stacked s i).edit_count) refl g (stacked-record i (omega arith))

  module _ (j : JobInRange s) where
    its-payload : PayloadInRange s.config (its s)
    its-payload = (taken-in-range r _ j.loaded).0

    next-if-early : (t : Bool) → eqb s.job.action revert ≡ t → s.job.steps < length (removing s) → OfRecord s (step_now s)
    next-if-early true e h =
        let n = reverting-next s e h in
        record { lays = false; payload = its s; number = _; same = sym n.1; ranged = its-payload; below = n.0 }
    next-if-early false e h =
        let n = replacing-next s (replacing s e h) h in
        rw (sym n.1) (stacked-record s.depth (omega arith) s.job.steps n.0)

    next-if : (t : Bool) → ltb s.job.steps (length (removing s)) ≡ t → OfRecord s (step_now s)
    next-if true e = next-if-early _ refl (ltb-true _ _ e)
    next-if false e =
        let n = laying-next s j.steps (ltb-false _ _ e) in
        record { lays = true; payload = its s; number = _; same = sym n.1; ranged = its-payload; below = n.0 }

    -- the job's next step is of a record
    pub next-of-record : OfRecord s (step_now s)
    next-of-record = next-if _ refl

    -- a job has few steps
    few-if : (t : Bool) (a b : List Step) (n : ℕ) → length a ≤ n → length b ≤ n → length (cond t a b) ≤ n
    few-if true a b n h g = h
    few-if false a b n h g = g

    removing-few : length (removing s) ≤ records_max * slot_count
    unfolding removing
    removing-few =
        let one : length (removals (its s)) ≤ records_max * slot_count = rw (length-removals (its s)) (omega (arith, its-payload.edits_max)) in
        let all : length (stacked_in s s.depth) ≤ records_max * slot_count =
        omega (arith, stacked-few s.depth (omega arith), r.few, r.shallow) in
        few-if (eqb s.job.action revert) _ _ _ one (few-if (eqb s.job.action replace) _ [] _ all (omega arith))

    laying-few : length (laying s) ≤ records_max
    unfolding laying
    laying-few =
        few-if (eqb s.job.action apply || eqb s.job.action replace) _ [] _ (rw (length-layings (its s)) its-payload.edits_max) (omega arith)

    pub steps-few : step_count s ≤ records_max * (slot_count + 1)
    steps-few = omega (arith, count-steps s, removing-few, laying-few)
