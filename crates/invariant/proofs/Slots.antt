-- Payloads by their slots: what a search finds in a list, and in a list with one more payload, one fewer, or others' statuses and results.
use Rattle.std.proofs.Common.{Some, None, Option, ℕ}
use Prim.Native.Nat.{ℕ, zero, suc, ◌≤◌, ◌<◌}
use mathlib.Core.Path.{◌≡◌, refl, sym, ◌∙◌}
use mathlib.Core.Bool.{Bool, true, false, cond}
use mathlib.Core.List.{List, [], ◌∷◌, ◌++◌, map}
use native.Mathlib.Omega.{arith}
use borrow.Author.Tests.{eqb-true, eqb-false, eq-eqb, ne_eqb}
use lib.Dec.{eqb}
use lib.ListN.{length, get_or, take, drop, length-map}
use lib.Seq.{take-nil}
use Rattle.words.specs.Find.{where_from, first_where}
use Rattle.words.specs.Name.{is_found}
use Rattle.memory.specs.Memory.{slot_count}
use Rattle.model.specs.Model.{Loaded, Model, no_payload}
use Rattle.model.specs.Step.{with_slot, payload_found, payload_in, with_status, with_result}
use Rattle.invariant.specs.Sound.{All, Absent, Apart, Different}
use Rattle.invariant.proofs.Lists.{
  never,
  by-test,
  all_append,
  all_take,
  all_drop,
  any,
  none-cons,
  any_append,
  all-fail,
  none_pass,
  all_map,
  found-any,
  among,
  missing-among,
  among-missing,
  few-below,
}

-- ---- the first payload that passes a test

abbrev at : List Loaded → Option ℕ → Loaded
at ps (Some i) = get_or ps i no_payload
at ps None = no_payload

payload-at : (l : Model) (f : Option ℕ) → payload_found l f ≡ at l.payloads f
payload-at l (Some i) = refl
payload-at l None = refl

-- found in the list behind a payload
abbrev later : Option ℕ → Option ℕ
later (Some i) = Some (suc i)
later None = None

at-later : (p : Loaded) (ps : List Loaded) (f : Option ℕ) → at (p ∷ ps) (later f) ≡ at ps f
at-later p ps (Some i) = refl
at-later p ps None = refl

module _ (test : Loaded → Bool) where
  abbrev pub pick : List Loaded → Loaded
  pick [] = no_payload
  pick (p ∷ ps) = cond (test p) p (pick ps)

  where-later : (i : ℕ) (ps : List Loaded) → where_from test (suc i) ps ≡ later (where_from test i ps)
  unfolding where_from
  where-later i [] = refl
  where-later i (p ∷ ps) =
      by-test (test p) (λ e. rw e) (λ e. rw e (where-later (suc i) ps))

  pub found-pick : (ps : List Loaded) → at ps (first_where test ps) ≡ pick ps
  unfolding where_from
  found-pick [] = refl
  found-pick (p ∷ ps) =
      by-test (test p)
      (λ e. rw e)
      (λ e. rw (e, where-later 0 ps, at-later p ps (first_where test ps)) (found-pick ps))

  pub pick-passes : (ps : List Loaded) → any test ps ≡ true → test (pick ps) ≡ true
  pick-passes [] h = never h refl
  pick-passes (p ∷ ps) h = by-test (test p) (λ e. rw e e) (λ e. rw e (pick-passes ps (rw e at h)))

  pub all-pick : (P : Loaded → Type 0) (ps : List Loaded) → All P ps → any test ps ≡ true → P (pick ps)
  all-pick P [] a h = never h refl
  all-pick P (p ∷ ps) a h = by-test (test p) (λ e. rw e a.0) (λ e. rw e (all-pick P ps a.1 (rw e at h)))

  -- in a list with more behind it
  pub pick-append : (ps qs : List Loaded) → any test ps ≡ true → pick (ps ++ qs) ≡ pick ps
  pick-append [] qs h = never h refl
  pick-append (p ∷ ps) qs h = by-test (test p) (λ e. rw e) (λ e. rw e (pick-append ps qs (rw e at h)))

  -- in a list without the payload at a place, which does not pass
  pub pick-cut : (i : ℕ) (ps : List Loaded) → i < length ps → test (get_or ps i no_payload) ≡ false → pick (take i ps ++ drop (suc i) ps) ≡ pick ps
  pick-cut i [] h e = absurd (omega arith)
  pick-cut zero (p ∷ ps) h e = rw e
  pick-cut (suc i) (p ∷ ps) h e = by-test (test p) (λ g. rw g) (λ g. rw g (pick-cut i ps (omega arith) e))

  pub any-cut : (i : ℕ) (ps : List Loaded) → i < length ps → test (get_or ps i no_payload) ≡ false → any test (take i ps ++ drop (suc i) ps) ≡ any test ps
  any-cut i [] h e = absurd (omega arith)
  any-cut zero (p ∷ ps) h e = rw e
  any-cut (suc i) (p ∷ ps) h e = by-test (test p) (λ g. rw g) (λ g. rw g (any-cut i ps (omega arith) e))

-- ---- by slot

abbrev pub is_in : ℕ → Loaded → Bool
is_in slot p = eqb p.slot slot

-- whether a payload is in this slot, and the one that is
abbrev pub holds : ℕ → List Loaded → Bool
holds slot ps = any (is_in slot) ps

abbrev pub in_slot : ℕ → List Loaded → Loaded
in_slot slot ps = pick (is_in slot) ps

-- as the model says it
pub slot-holds : (l : Model) (slot : ℕ) → is_found (with_slot l slot) ≡ holds slot l.payloads
unfolding with_slot
slot-holds l slot = found-any (is_in slot) 0 l.payloads

pub payload-in : (l : Model) (slot : ℕ) → payload_in l slot ≡ in_slot slot l.payloads
unfolding with_slot
payload-in l slot = payload-at l (with_slot l slot) ∙ found-pick (is_in slot) l.payloads

pub slot-in : (slot : ℕ) (ps : List Loaded) → holds slot ps ≡ true → (in_slot slot ps).slot ≡ slot
slot-in slot ps h = eqb-true _ slot (pick-passes (is_in slot) ps h)

-- ---- the slots of a list of payloads

abbrev pub slots : List Loaded → List ℕ
slots ps = map (λ p. p.slot) ps

pub holds-among : (slot : ℕ) (ps : List Loaded) → holds slot ps ≡ among slot (slots ps)
holds-among slot [] = refl
holds-among slot (p ∷ ps) = rw (holds-among slot ps)

pub absent-among : (slot : ℕ) (ps : List Loaded) → Absent slot ps → among slot (slots ps) ≡ false
absent-among slot ps h = sym (found-any (is_in slot) 0 ps ∙ holds-among slot ps) ∙ h

pub among-absent : (slot : ℕ) (ps : List Loaded) → among slot (slots ps) ≡ false → Absent slot ps
among-absent slot ps h = found-any (is_in slot) 0 ps ∙ holds-among slot ps ∙ h

-- payloads are apart where their slots are different
pub apart-different : (ps : List Loaded) → Apart ps → Different (slots ps)
apart-different [] a = tt
apart-different (p ∷ ps) a = (among-missing p.slot (slots ps) (absent-among p.slot ps a.0), apart-different ps a.1)

pub different-apart : (ps : List Loaded) → Different (slots ps) → Apart ps
different-apart [] d = tt
different-apart (p ∷ ps) d = (among-absent p.slot ps (missing-among p.slot (slots ps) d.0), different-apart ps d.1)

-- so the payload at a place is the one in its slot
pub in-own-slot :
    (ps : List Loaded) → Apart ps → (i : ℕ) → i < length ps →
    (holds (get_or ps i no_payload).slot ps ≡ true) × (in_slot (get_or ps i no_payload).slot ps ≡ get_or ps i no_payload)
in-own-slot [] a i h = absurd (omega arith)
in-own-slot (p ∷ ps) a zero h = rw (eq-eqb p.slot p.slot refl) (refl, refl)
in-own-slot (p ∷ ps) a (suc i) h =
    let later = in-own-slot ps a.1 i (omega arith) in
    let slot : ℕ = (get_or ps i no_payload).slot in
    by-test (eqb p.slot slot)
    (λ e. never (rw (← eqb-true p.slot slot e) at later.0) (sym (found-any (is_in p.slot) 0 ps) ∙ a.0))
    (λ e. rw e later)

-- one more behind them
different-behind : (xs : List ℕ) (x : ℕ) → Different xs → among x xs ≡ false → Different (xs ++ (x ∷ []))
unfolding where_from
different-behind [] x d h = (refl, tt)
different-behind (y ∷ xs) x d h =
    let each = none-cons (λ z. eqb z x) y xs h in
    let other : eqb x y ≡ false = ne_eqb x y λ e. eqb-false y x each.0 (sym e) in (
      among-missing y (xs ++ (x ∷ [])) (any_append (λ z. eqb z y) xs (x ∷ []) ∙ rw (missing-among y xs d.0, other)),
      different-behind xs x d.1 each.1,
    )

pub slots-append : (ps : List Loaded) (q : Loaded) → slots (ps ++ (q ∷ [])) ≡ slots ps ++ (q.slot ∷ [])
slots-append [] q = refl
slots-append (p ∷ ps) q = rw (slots-append ps q)

pub apart-behind : (ps : List Loaded) (q : Loaded) → Apart ps → Absent q.slot ps → Apart (ps ++ (q ∷ []))
apart-behind ps q a h =
    different-apart (ps ++ (q ∷ []))
    (rw (slots-append ps q) (different-behind (slots ps) q.slot (apart-different ps a) (absent-among q.slot ps h)))

-- without the one at a place
pub all-cut : (P : Loaded → Type 0) (i : ℕ) (ps : List Loaded) → All P ps → All P (take i ps ++ drop (suc i) ps)
all-cut P i ps a = all_append P (take i ps) (drop (suc i) ps) (all_take P i ps a) (all_drop P (suc i) ps a)

absent-cut : (slot i : ℕ) (ps : List Loaded) → Absent slot ps → Absent slot (take i ps ++ drop (suc i) ps)
absent-cut slot i ps h =
    let fail = all-fail (is_in slot) ps (sym (found-any (is_in slot) 0 ps) ∙ h) in
    found-any (is_in slot) 0 (take i ps ++ drop (suc i) ps) ∙ none_pass (is_in slot) (take i ps ++ drop (suc i) ps) (all-cut _ i ps fail)

pub apart-cut : (i : ℕ) (ps : List Loaded) → Apart ps → Apart (take i ps ++ drop (suc i) ps)
apart-cut i [] a = rw (take-nil i) tt
apart-cut zero (p ∷ ps) a = a.1
apart-cut (suc i) (p ∷ ps) a = (absent-cut p.slot i ps a.0, apart-cut i ps a.1)

-- ---- how many there can be

abbrev pub Below : List Loaded → Type 0
Below ps = All (λ p. p.slot < slot_count) ps

pub payloads-few : (ps : List Loaded) → Below ps → Apart ps → length ps ≤ slot_count
payloads-few ps b a =
    rw (length-map ps (λ p. p.slot)) at (few-below slot_count (slots ps) (apart-different ps a) (all_map _ (λ p. p.slot) ps b))

-- where a slot is free there are fewer
pub payloads-fewer : (ps : List Loaded) (slot : ℕ) → Below ps → Apart ps → slot < slot_count → Absent slot ps → length ps < slot_count
payloads-fewer ps slot b a s h =
    let missing = among-missing slot (slots ps) (absent-among slot ps h) in
    rw (length-map ps (λ p. p.slot)) at (few-below slot_count (slot ∷ slots ps) (missing, apart-different ps a) (s, all_map _ (λ p. p.slot) ps b))

-- ---- other statuses and results

-- a payload without its status and result
abbrev pub bare : Loaded → Loaded
bare p = with_status 0 (with_result 0 p)

pub holds-bare : (slot : ℕ) (ps : List Loaded) → holds slot (map bare ps) ≡ holds slot ps
holds-bare slot [] = refl
holds-bare slot (p ∷ ps) = rw (holds-bare slot ps)

pub in-bare : (slot : ℕ) (ps : List Loaded) → in_slot slot (map bare ps) ≡ bare (in_slot slot ps)
in-bare slot [] = refl
in-bare slot (p ∷ ps) = by-test (eqb p.slot slot) (λ e. rw e) (λ e. rw e (in-bare slot ps))

pub slots-bare : (ps : List Loaded) → slots (map bare ps) ≡ slots ps
slots-bare [] = refl
slots-bare (p ∷ ps) = rw (slots-bare ps)
