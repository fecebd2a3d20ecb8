-- Every element of a list, and how many payloads there are: 8 at most, fewer where a slot is free, and no fewer than are applied.
use Rattle.std.proofs.Common.{Some, Option, ℕ}
use Prim.Native.Nat.{ℕ, suc, ◌≤◌, ◌<◌}
use mathlib.Core.Path.{◌≡◌, refl, sym, ap, ◌∙◌}
use mathlib.Core.Bool.{Bool, true, false, cond, ◌||◌}
use mathlib.Core.List.{List, [], ◌∷◌, reverse, reverse_aux}
use lib.Dec.{eqb}
use lib.ListN.{length, length-map}
use Rattle.words.specs.Find.{where_from, first_where, every}
use Rattle.words.specs.Name.{is_found}
use Rattle.memory.specs.Memory.{slot_count}
use Rattle.model.specs.Model.{Start, Loaded}
use Rattle.invariant.specs.Sound.{All, Absent, Apart, Different, SoundPayload}
use Rattle.invariant.proofs.Lists.{found-any, no_more}
use Rattle.invariant.proofs.Slots.{is_in, Below, slots, holds-among, payloads-few, payloads-fewer}
pub use Rattle.invariant.proofs.Lists.{all-at, all-as as All-then}

-- ---- every element

pub all_both :
    {A : Type 0} (P Q R : A → Type 0) → ((x : A) → P x → Q x → R x) → (xs : List A) → All P xs → All Q xs → All R xs
all_both P Q R f [] h g = tt
all_both P Q R f (x ∷ xs) h g = (f x h.0 g.0, all_both P Q R f xs h.1 g.1)

-- in either order
all-onto : {A : Type 0} (P : A → Type 0) (xs ys : List A) → All P xs → All P ys → All P (reverse_aux xs ys)
all-onto P [] ys h g = g
all-onto P (x ∷ xs) ys h g = all-onto P xs (x ∷ ys) h.1 (h.0, g)

pub all-reverse : {A : Type 0} (P : A → Type 0) (xs : List A) → All P xs → All P (reverse xs)
all-reverse P xs h = all-onto P xs [] h tt

pub all-every : {A : Type 0} (test : A → Bool) (xs : List A) → All (λ x. test x ≡ true) xs → every test xs ≡ true
unfolding every
all-every test [] h = refl
all-every test (x ∷ xs) h = rw h.0 (all-every test xs h.1)

-- ---- some element passes

module _ {A : Type 0} (test : A → Bool) where
  abbrev some : List A → Bool
  some [] = false
  some (x ∷ xs) = test x || some xs

  found-if : (t : Bool) (i : ℕ) (f : Option ℕ) → is_found (cond t (Some i) f) ≡ (t || is_found f)
  found-if true i f = refl
  found-if false i f = refl

  pub found_some : (i : ℕ) (xs : List A) → is_found (where_from test i xs) ≡ some xs
  unfolding where_from
  found_some i [] = refl
  found_some i (x ∷ xs) = found-if (test x) i (where_from test (suc i) xs) ∙ ap (λ (b : Bool). test x || b) (found_some (suc i) xs)

-- ---- payloads

module _ (a : Start) (ps : List Loaded) (sound : All (SoundPayload a) ps) (apart : Apart ps) where
  below : Below ps
  below = All-then (SoundPayload a) _ (λ p h. h.slotted) ps sound

  pub few-payloads : length ps ≤ slot_count
  few-payloads = payloads-few ps below apart

  -- where a slot is free
  pub room-left : (slot : ℕ) → slot < slot_count → Absent slot ps → length ps < slot_count
  room-left slot low h = payloads-fewer ps slot below apart low h

-- different slots that payloads are in
pub no-more-slots :
    (xs : List ℕ) (ps : List Loaded) → Different xs →
    All (λ slot. is_found (first_where (λ p. eqb p.slot slot) ps) ≡ true) xs → length xs ≤ length ps
no-more-slots xs ps d h =
    rw (length-map ps (λ p. p.slot))
    at (no_more xs (slots ps) d
    (All-then _ _ (λ slot e. sym (holds-among slot ps) ∙ sym (found-any (is_in slot) 0 ps) ∙ e) xs h))
