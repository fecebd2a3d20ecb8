-- The edits that a stack and a job have laid fit the text and the undo store, and no record is laid twice.
use Prim.Native.Nat.{ℕ, zero, suc, ◌≤◌}
use mathlib.Core.Path.{◌≡◌, refl, sym, ◌∙◌}
use mathlib.Core.Bool.{Bool, true, false, cond}
use mathlib.Core.List.{List, [], ◌∷◌, ◌++◌}
use native.Mathlib.Omega.{arith}
use borrow.Author.Tests.{ne_eqb}
use lib.Dec.{eqb}
use lib.ListN.{length, drop}
use Rattle.records.specs.Payload.{no_edit}
use Rattle.model.specs.Model.{Start, Loaded, Laid}
use Rattle.invariant.specs.Done.{first_edits}
use Rattle.invariant.specs.Sound.{All, FittingEdit, FittingLaid, SoundPayload, is_record, Unlaid, Once, Missing, Different}
use Rattle.invariant.proofs.Lists.{
  all_append,
  all_drop,
  all-at,
  all-as,
  any,
  found-any,
  any_append,
  none-cons,
  all-fail,
  none_pass,
  among,
  missing-among,
}
use Rattle.invariant.proofs.Slots.{is_in, holds, in_slot, slot-in, all-pick}
use Rattle.invariant.proofs.Edits.{first-none, first_more, edits_in}

-- ---- they fit

module _ (a : Start) where
  abbrev Fits : Laid → Type 0
  Fits = FittingLaid (length a.text)

  pub first-fit : (p : Loaded) → SoundPayload a p → (n : ℕ) → n ≤ length p.edits → All Fits (first_edits p n)
  first-fit p s zero h = rw (first-none p) tt
  first-fit p s (suc n) h =
      rw (first_more p n) (
        record {
          edit = all-at (FittingEdit (length a.text)) p.edits s.edits n no_edit h;
          slot = s.slotted;
          number = omega (arith, s.edits_few);
        },
        first-fit p s n (omega arith),
      )

  module _ (ps : List Loaded) (sound : All (SoundPayload a) ps) where
    pub stack-fit : (stack : List ℕ) → All (λ slot. holds slot ps ≡ true) stack → All Fits (edits_in ps stack)
    stack-fit [] h = tt
    stack-fit (slot ∷ older) h =
        all_append Fits (first_edits (in_slot slot ps) _) (edits_in ps older)
        (first-fit (in_slot slot ps) (all-pick (is_in slot) (SoundPayload a) ps sound h.0) _ (omega arith))
        (stack-fit older h.1)

-- ---- no record is laid twice

-- whether this record is laid
abbrev is_laid : ℕ → ℕ → List Laid → Bool
is_laid slot number xs = any (is_record slot number) xs

unlaid : (slot number : ℕ) (xs : List Laid) → is_laid slot number xs ≡ false → Unlaid slot number xs
unlaid slot number xs h = found-any (is_record slot number) 0 xs ∙ h

not-laid : (slot number : ℕ) (xs : List Laid) → Unlaid slot number xs → is_laid slot number xs ≡ false
not-laid slot number xs h = sym (found-any (is_record slot number) 0 xs) ∙ h

unlaid-drop : (slot number k : ℕ) (xs : List Laid) → is_laid slot number xs ≡ false → is_laid slot number (drop k xs) ≡ false
unlaid-drop slot number k xs h =
    none_pass (is_record slot number) (drop k xs) (all_drop _ k xs (all-fail (is_record slot number) xs h))

-- in the first n edits of a payload there are no later ones, and none of another slot
later-unlaid : (p : Loaded) (slot number n : ℕ) → n ≤ number → is_laid slot number (first_edits p n) ≡ false
later-unlaid p slot number zero h = rw (first-none p)
later-unlaid p slot number (suc n) h =
    let other : eqb n number ≡ false = ne_eqb n number λ e. omega arith in
    rw (first_more p n, other) (rw (later-unlaid p slot number n (omega arith)) (either (eqb p.slot slot)))
  where
    either : (t : Bool) → cond (cond t false false) true false ≡ false
    either true = refl
    either false = refl

other-unlaid : (p : Loaded) (slot number n : ℕ) → eqb p.slot slot ≡ false → is_laid slot number (first_edits p n) ≡ false
other-unlaid p slot number zero h = rw (first-none p)
other-unlaid p slot number (suc n) h = rw (first_more p n, h) (other-unlaid p slot number n h)

first-once : (p : Loaded) (n : ℕ) → Once (first_edits p n)
first-once p zero = rw (first-none p) tt
first-once p (suc n) = rw (first_more p n) (unlaid p.slot n _ (later-unlaid p p.slot n n (omega arith)), first-once p n)

-- one list before another
once-append :
    (xs ys : List Laid) → Once xs → Once ys → All (λ x. is_laid x.slot x.number ys ≡ false) xs → Once (xs ++ ys)
once-append [] ys a b h = b
once-append (x ∷ xs) ys a b h =
    let first = not-laid x.slot x.number xs a.0 in (
      unlaid x.slot x.number (xs ++ ys) (any_append (is_record x.slot x.number) xs ys ∙ rw (first, h.0)),
      once-append xs ys a.1 b h.1,
    )

pub once-drop : (n : ℕ) (xs : List Laid) → Once xs → Once (drop n xs)
once-drop zero xs a = a
once-drop (suc n) [] a = a
once-drop (suc n) (x ∷ xs) a = once-drop n xs a.1

-- the edits of a payload are all of its slot
first-own : (P : ℕ → Type 0) (p : Loaded) → P p.slot → (n : ℕ) → All (λ x. P x.slot) (first_edits p n)
first-own P p h zero = rw (first-none p) tt
first-own P p h (suc n) = rw (first_more p n) (h, first-own P p h n)

module _ (ps : List Loaded) where
  -- those of a stack are of no slot that is not on it
  stack-unlaid :
      (slot number : ℕ) (stack : List ℕ) → among slot stack ≡ false → All (λ x. holds x ps ≡ true) stack →
      is_laid slot number (edits_in ps stack) ≡ false
  stack-unlaid slot number [] m h = refl
  stack-unlaid slot number (x ∷ older) m h =
      let others = none-cons (λ y. eqb y slot) x older m in
      let own : eqb (in_slot x ps).slot slot ≡ false = rw (slot-in x ps h.0) others.0 in
      any_append (is_record slot number) (first_edits (in_slot x ps) _) (edits_in ps older)
      ∙ rw (other-unlaid (in_slot x ps) slot number _ own, stack-unlaid slot number older others.1 h.1)

  -- the first n edits of a payload over those of a stack that it is not on
  module _ (slot k : ℕ) (stack : List ℕ) (m : Missing slot stack) (s : holds slot ps ≡ true) (h : All (λ x. holds x ps ≡ true) stack) where
    abbrev under : List Laid
    under = drop k (edits_in ps stack)

    own-unlaid : (number : ℕ) → is_laid (in_slot slot ps).slot number under ≡ false
    own-unlaid number =
        rw (slot-in slot ps s) (unlaid-drop slot number k (edits_in ps stack) (stack-unlaid slot number stack (missing-among slot stack m) h))

    pub over-once : (n : ℕ) → Once (edits_in ps stack) → Once (first_edits (in_slot slot ps) n ++ under)
    over-once n a =
        let p : Loaded = in_slot slot ps in
        once-append (first_edits p n) under (first-once p n) (once-drop k (edits_in ps stack) a)
        (all-as _ _ (λ x f. f x.number) (first_edits p n) (first-own (λ own. (number : ℕ) → is_laid own number under ≡ false) p own-unlaid n))

  pub stack-once : (stack : List ℕ) → Different stack → All (λ x. holds x ps ≡ true) stack → Once (edits_in ps stack)
  stack-once [] d h = tt
  stack-once (slot ∷ older) d h = over-once slot 0 older d.0 h.0 h.1 _ (stack-once older d.1 h.1)
