-- A work step keeps a sound model sound: the edits laid after it are those of one step more, and after the last step those of the new stack.
use Rattle.std.proofs.Common.{Option, None, Some}
use Prim.Native.Nat.{ℕ, suc, ◌+◌, ◌-◌, ◌≤◌, ◌<◌, min}
use mathlib.Core.Path.{◌≡◌, refl, sym, ap, ◌∙◌, subst⁻¹}
use mathlib.Core.Bool.{true, false, cond}
use mathlib.Core.List.{List, [], ◌∷◌, map}
use native.Mathlib.Omega.{arith}
use borrow.Author.Tests.{ltb-true, ltb-false, eqb-true, eqb-false, eq-eqb, ne_eqb}
use lib.Dec.{eqb, ltb}
use lib.ListN.{length, drop}
use lib.Seq.{drop-drop, drop_at, drop-length}
use Rattle.words.specs.Find.{where_from}
use Rattle.model.specs.Model.{Start, Loaded, Laid, Job, Model}
use Rattle.model.specs.Step.{
  with_payloads,
  with_laid,
  with_stack,
  with_job,
  with_slot,
  is_top,
  is_complete,
  with_steps,
  step_count,
  laid_from,
  laid_after,
  stack_after,
  with_statuses,
  ended,
  work_with,
  worked,
}
use Rattle.invariant.specs.Done.{first_edits}
use Rattle.invariant.specs.Sound.{All, Different, HasStatus}
use Rattle.invariant.proofs.Lists.{never, by-test, all_drop}
use Rattle.invariant.proofs.Slots.{holds, in_slot, slot-in, payload-in, bare}
use Rattle.invariant.proofs.Edits.{first-none, first_more, length-first, edits_in, removals, removals-in, steps, steps-in, done, edits-kept}
use Rattle.invariant.proofs.Parts.{Stacked, JobParts, Parts}
use Rattle.invariant.proofs.Carried.{payloads-bare, apart_bare, all-kept, stacked-kept, resulted, changed-is, result-only, result-bare}
use Rattle.invariant.proofs.Rendezvous.{going_on, job_of, laid_of}

-- ---- one step more

module _ (ps : List Loaded) (stack : List ℕ) (action slot : ℕ) where
  abbrev own : Loaded
  own = in_slot slot ps

  abbrev off : ℕ
  off = removals ps stack action slot

  abbrev laid_by : ℕ → List Laid
  laid_by k = done ps stack action slot k

  -- an edit taken off, and one laid
  one-off : (k : ℕ) → k < off → drop 1 (laid_by k) ≡ laid_by (k + 1)
  one-off k h =
      let now : k - off ≡ 0 = omega arith in
      let next : k + 1 - off ≡ 0 = omega arith in
      let from : min k off ≡ k = omega arith in
      let to : min (k + 1) off ≡ k + 1 = omega arith in
      rw (now, next, from, to, first-none own) (drop-drop 1 k (edits_in ps stack))

  one-laid : (k : ℕ) → off ≤ k → laid_from own (k - off) ∷ laid_by k ≡ laid_by (k + 1)
  one-laid k h =
      let next : k + 1 - off ≡ suc (k - off) = omega arith in
      let from : min k off ≡ off = omega arith in
      let to : min (k + 1) off ≡ off = omega arith in
      rw (next, from, to, first_more own (k - off))

  one_more : (k : ℕ) → cond (ltb k off) (drop 1 (laid_by k)) (laid_from own (k - off) ∷ laid_by k) ≡ laid_by (k + 1)
  one_more k =
      by-test (ltb k off) (λ h. rw h (one-off k (ltb-true k off h))) (λ h. rw h (one-laid k (ltb-false k off h)))

-- ---- after the last step

-- taking off the payload on top leaves the edits of those below it
top-off :
    (ps : List Loaded) (slot : ℕ) (stack : List ℕ) → holds slot ps ≡ true → is_top stack (in_slot slot ps) ≡ true →
    drop (length (in_slot slot ps).edits) (edits_in ps stack) ≡ edits_in ps (drop 1 stack)
top-off ps slot [] h top = never top refl
top-off ps slot (x ∷ older) h top =
    let same : x ≡ slot = eqb-true x _ top ∙ slot-in slot ps h in
    let n : ℕ = length (in_slot slot ps).edits in
    rw same (drop_at (first_edits (in_slot slot ps) n) (edits_in ps older) n (length-first (in_slot slot ps) n))

module _ (a : Start) (ps : List Loaded) (stack : List ℕ) (j : Job) (s : JobParts a ps stack j) where
  abbrev count : ℕ
  count = length (in_slot j.slot ps).edits

  abbrev next : List ℕ
  next = stack_after j.action j.slot stack

  -- an action that is neither a revert nor a replace is an apply
  is-apply : eqb j.action 2 ≡ false → eqb j.action 4 ≡ false → eqb j.action 3 ≡ true
  is-apply e f =
      let not-2 : j.action ≡ 2 → ⊥ = eqb-false j.action 2 e in
      let not-4 : j.action ≡ 4 → ⊥ = eqb-false j.action 4 f in
      eq-eqb j.action 3 (omega (arith, s.action_low, s.action_high))

  no-apply : eqb j.action 4 ≡ true → eqb j.action 3 ≡ false
  no-apply f =
      let is-4 : j.action ≡ 4 = eqb-true j.action 4 f in
      ne_eqb j.action 3 λ e. omega arith

  abbrev done_all : List Laid
  done_all = done ps stack j.action j.slot (steps ps stack j.action j.slot)

  reverted : eqb j.action 2 ≡ true → done_all ≡ edits_in ps next
  reverted e =
      let none-laid : count + 0 - count ≡ 0 = omega arith in
      let all-off : min (count + 0) count ≡ count = omega arith in
      rw (e, none-laid, all-off, first-none (in_slot j.slot ps))
      (top-off ps j.slot stack s.loaded (s.top (eqb-true j.action 2 e)))

  replaced : eqb j.action 2 ≡ false → eqb j.action 4 ≡ true → done_all ≡ edits_in ps next
  replaced e f =
      let under : ℕ = length (edits_in ps stack) in
      let all_laid : under + count - under ≡ count = omega arith in
      let all-off : min (under + count) under ≡ under = omega arith in
      rw (e, f, no-apply f, all_laid, all-off, drop-length (edits_in ps stack))

  applied : eqb j.action 2 ≡ false → eqb j.action 4 ≡ false → done_all ≡ edits_in ps next
  applied e f =
      let all_laid : 0 + count - 0 ≡ count = omega arith in
      let none-off : min (0 + count) 0 ≡ 0 = omega arith in
      rw (e, f, is-apply e f, all_laid, none-off)

  all_done : done_all ≡ edits_in ps next
  all_done = by-test (eqb j.action 2) reverted (λ e. by-test (eqb j.action 4) (replaced e) (applied e))

  -- the new stack has loaded payloads, each once
  next-stacked : Stacked ps stack → Stacked ps next
  next-stacked h =
      by-test (eqb j.action 2)
      (λ e. rw e (all_drop _ 1 stack h))
      (λ e. rw e (by-test (eqb j.action 3) (λ f. rw f (s.loaded, h)) (λ f. rw f (s.loaded, tt))))

  next-different : Different stack → Different next
  unfolding where_from
  next-different h =
      by-test (eqb j.action 2)
      (λ e. rw e (below stack h))
      (λ e. rw e (by-test (eqb j.action 3) (λ f. rw f (s.new (eqb-false j.action 2 e), h)) (λ f. rw f (refl, tt))))
    where
      below : (xs : List ℕ) → Different xs → Different (drop 1 xs)
      below [] d = tt
      below (x ∷ xs) d = d.1

-- ---- statuses set

status-bare : (stack : List ℕ) (ps : List Loaded) → map bare (with_statuses stack ps) ≡ map bare ps
status-bare stack [] = refl
status-bare stack (p ∷ ps) = rw (status-bare stack ps)

status-set : (stack : List ℕ) (ps : List Loaded) → All (HasStatus stack) (with_statuses stack ps)
status-set stack [] = tt
status-set stack (p ∷ ps) = (refl, status-set stack ps)

-- ---- the call

module _ (l : Model) (s : Parts l) (j : Job) (e : l.job ≡ Some j) where
  abbrev stands : JobParts l.start l.payloads l.stack j
  stands = job_of l s j e

  pub laid_next : laid_after l j ≡ done l.payloads l.stack j.action j.slot (j.steps + 1)
  laid_next =
      rw (removals-in l j, payload-in l j.slot, laid_of l s j e) (one_more l.payloads l.stack j.action j.slot j.steps)

  pub laid_end : j.steps + 1 ≡ step_count l j → laid_after l j ≡ edits_in l.payloads (stack_after j.action j.slot l.stack)
  laid_end last =
      laid_next
      ∙ ap (done l.payloads l.stack j.action j.slot) (last ∙ steps-in l j)
      ∙ all_done l.start l.payloads l.stack j stands

  -- not the last step
  goes_on : is_complete j ≡ true → (j.steps + 1 ≡ step_count l j → ⊥) → Parts (with_job (Some (with_steps (j.steps + 1) j)) (with_laid (laid_after l j) l))
  goes_on complete more =
      record {
        start = s.start;
        version = s.version;
        payloads = s.payloads;
        apart = s.apart;
        stacked = s.stacked;
        different = s.different;
        statuses = s.statuses;
        job =
            going_on l.start l.payloads l.stack j stands j.held j.time (j.steps + 1) stands.held stands.time_some
            (omega (arith, stands.steps_left, steps-in l j))
            (never complete);
        laid = laid_next;
      }

  -- the last
  ends : j.steps + 1 ≡ step_count l j → Parts (ended (with_laid (laid_after l j) l) j)
  ends last =
      let stack : List ℕ = stack_after j.action j.slot l.stack in
      let after : Model = with_laid (laid_after l j) l in
      let found = with_slot after j.slot in
      let rs : List Loaded = resulted 0 l.payloads found in
      let qs : List Loaded = with_statuses stack rs in
      let same : map bare qs ≡ map bare l.payloads = status-bare stack rs ∙ result-bare l.payloads rs (result-only 0 l.payloads found) in
      let kept = all-kept l.payloads qs same stack in
      subst⁻¹ (λ (m : Model). Parts (with_job None (with_stack stack (with_payloads (with_statuses stack m.payloads) m)))) (changed-is 0 after found)
      record {
        start = s.start;
        version = s.version;
        payloads = payloads-bare l.start l.payloads qs same s.payloads;
        apart = apart_bare l.payloads qs same s.apart;
        stacked = stacked-kept l.payloads qs stack kept (next-stacked l.start l.payloads l.stack j stands s.stacked);
        different = next-different l.start l.payloads l.stack j stands s.different;
        statuses = status-set stack rs;
        job = tt;
        laid = laid_end last ∙ sym (edits-kept l.payloads qs stack kept);
      }

  step-sound : is_complete j ≡ true → Parts (worked l j)
  step-sound h =
      by-test (eqb (j.steps + 1) (step_count l j)) (λ g. rw g (ends (eqb-true _ _ g))) (λ g. rw g (goes_on h (eqb-false _ _ g)))

  work-by : Parts (work_with l (Some j)).model
  work-by = by-test (is_complete j) (λ h. rw h (step-sound h)) (λ h. rw h s)

pub work-sound : (l : Model) (o : Option Job) → l.job ≡ o → Parts l → Parts (work_with l o).model
work-sound l None e s = s
work-sound l (Some j) e s = work-by l s j e
