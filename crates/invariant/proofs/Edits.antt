-- The edits of a payload and of a stack: said of a list of payloads, and how they change with it.
use Prim.Native.Nat.{ℕ, zero, suc, ◌+◌, ◌-◌, ◌<◌, min}
use mathlib.Core.Path.{◌≡◌, refl, sym, ap, ap₂, ◌∙◌}
use mathlib.Core.Bool.{true, false, cond}
use mathlib.Core.List.{List, [], ◌∷◌, ◌++◌, map}
use native.Mathlib.Omega.{arith}
use lib.Dec.{eqb}
use lib.ListN.{length, get_or, take, drop, length-append}
use Rattle.words.specs.Scan.{scan, each}
use Rattle.words.proofs.Scan.{length-each}
use Rattle.model.specs.Model.{Loaded, Laid, Job, Model, no_payload}
use Rattle.model.specs.Step.{edit_count, laid_from, removal_count, step_count}
use Rattle.invariant.specs.Done.{first_edits, all_edits, stack_edits, done_after}
use Rattle.invariant.specs.Sound.{All}
use Rattle.invariant.proofs.Lists.{any_append}
use Rattle.invariant.proofs.Slots.{is_in, holds, in_slot, payload-in, pick-append, pick-cut, any-cut, bare, holds-bare, in-bare}

-- ---- the first edits of a payload

module _ {A : Type 0} where
  each_same : (f g : ℕ → A) → ((j : ℕ) → f j ≡ g j) → (i k : ℕ) → each f i k ≡ each g i k
  unfolding scan
  each_same f g h i zero = refl
  each_same f g h i (suc k) = rw (h i, each_same f g h (suc i) k)

  each-shift : (f : ℕ → A) (i k : ℕ) → each f (suc i) k ≡ each (λ j. f (suc j)) i k
  unfolding scan
  each-shift f i zero = refl
  each-shift f i (suc k) = rw (each-shift f (suc i) k)

module _ (p : Loaded) where
  pub first-none : first_edits p 0 ≡ []
  unfolding first_edits scan
  first-none = refl

  -- one more
  earlier : (n j : ℕ) → laid_from p (suc n - 1 - suc j) ≡ laid_from p (n - 1 - j)
  earlier n j = let e : suc n - 1 - suc j ≡ n - 1 - j = omega arith in rw e

  pub first_more : (n : ℕ) → first_edits p (suc n) ≡ laid_from p n ∷ first_edits p n
  unfolding first_edits scan
  first_more n =
      let newest : suc n - 1 - 0 ≡ n = omega arith in
      ap₂ (λ (r : ℕ) (xs : List Laid). laid_from p r ∷ xs) newest
      (each-shift (λ i. laid_from p (suc n - 1 - i)) 0 n ∙ each_same _ _ (earlier n) 0 n)

  pub length-first : (n : ℕ) → length (first_edits p n) ≡ n
  unfolding first_edits
  length-first n = length-each _ 0 n

-- payloads of one slot with the same edits
pub first_alike : (p q : Loaded) → p.slot ≡ q.slot → p.edits ≡ q.edits → (n : ℕ) → first_edits p n ≡ first_edits q n
first_alike p q s e zero = first-none p ∙ sym (first-none q)
first_alike p q s e (suc n) = rw (first_more p n, first_more q n, first_alike p q s e n, s, e)

-- ---- the edits of a stack

abbrev pub edits_in : List Loaded → List ℕ → List Laid
edits_in ps [] = []
edits_in ps (slot ∷ older) = all_edits (in_slot slot ps) ++ edits_in ps older

pub edits-in : (l : Model) (slots : List ℕ) → stack_edits l slots ≡ edits_in l.payloads slots
unfolding stack_edits
edits-in l [] = refl
edits-in l (slot ∷ older) = rw (payload-in l slot, edits-in l older)

pub count-in : (l : Model) (slots : List ℕ) → edit_count l slots ≡ length (edits_in l.payloads slots)
unfolding edit_count
count-in l [] = refl
count-in l (slot ∷ older) =
    rw (payload-in l slot, count-in l older, length-append, length-first (in_slot slot l.payloads) (length (in_slot slot l.payloads).edits))

-- ---- a job's steps: it acts on the payload in this slot, over this stack

module _ (ps : List Loaded) (stack : List ℕ) (action slot : ℕ) where
  abbrev pub own_count : ℕ
  own_count = length (in_slot slot ps).edits

  abbrev pub removals : ℕ
  removals = cond (eqb action 2) own_count (cond (eqb action 4) (length (edits_in ps stack)) 0)

  abbrev pub layings : ℕ
  layings = cond (eqb action 2) 0 own_count

  abbrev pub steps : ℕ
  steps = removals + layings

  -- what is laid after the first k
  abbrev pub done : ℕ → List Laid
  done k = first_edits (in_slot slot ps) (k - removals) ++ drop (min k removals) (edits_in ps stack)

  pub done_none : done 0 ≡ edits_in ps stack
  done_none =
      let none-laid : 0 - removals ≡ 0 = omega arith in
      let none-off : min 0 removals ≡ 0 = omega arith in
      rw (none-laid, none-off, first-none (in_slot slot ps))

module _ (l : Model) (j : Job) where
  pub removals-in : removal_count l j ≡ removals l.payloads l.stack j.action j.slot
  removals-in = rw (payload-in l j.slot, count-in l l.stack)

  pub steps-in : step_count l j ≡ steps l.payloads l.stack j.action j.slot
  steps-in = rw (payload-in l j.slot, count-in l l.stack)

  pub done-in : (k : ℕ) → done_after l j k ≡ done l.payloads l.stack j.action j.slot k
  unfolding done_after
  done-in k = rw (removals-in, payload-in l j.slot, edits-in l l.stack)

-- ---- another list of payloads

-- it has in this slot what the first has: a payload of the same edits
pub record Kept (ps qs : List Loaded) (slot : ℕ) : Type 0 where
  pub held : holds slot qs ≡ holds slot ps
  pub own : (in_slot slot qs).slot ≡ (in_slot slot ps).slot
  pub edits : (in_slot slot qs).edits ≡ (in_slot slot ps).edits

module _ (ps qs : List Loaded) where
  pub edits-kept : (stack : List ℕ) → All (Kept ps qs) stack → edits_in qs stack ≡ edits_in ps stack
  edits-kept [] k = refl
  edits-kept (slot ∷ older) k =
      rw (k.0.edits, first_alike (in_slot slot qs) (in_slot slot ps) k.0.own k.0.edits, edits-kept older k.1)

  module _ (stack : List ℕ) (action slot : ℕ) (k : All (Kept ps qs) stack) (s : Kept ps qs slot) where
    pub steps-kept : steps qs stack action slot ≡ steps ps stack action slot
    steps-kept = rw (s.edits, edits-kept stack k)

    pub done-kept : (n : ℕ) → done qs stack action slot n ≡ done ps stack action slot n
    done-kept n =
        rw (s.edits, edits-kept stack k, first_alike (in_slot slot qs) (in_slot slot ps) s.own s.edits)

-- the payload in the slot is the same but for its status and result
kept_by : (ps qs : List Loaded) (slot : ℕ) → holds slot qs ≡ holds slot ps → bare (in_slot slot qs) ≡ bare (in_slot slot ps) → Kept ps qs slot
kept_by ps qs slot h same = record { held = h; own = ap (λ (p : Loaded). p.slot) same; edits = ap (λ (p : Loaded). p.edits) same }

-- so with a list that has more behind it, where the slot is taken
pub kept-behind : (ps qs : List Loaded) (slot : ℕ) → holds slot ps ≡ true → Kept ps (ps ++ qs) slot
kept-behind ps qs slot h = kept_by ps (ps ++ qs) slot (any_append (is_in slot) ps qs ∙ rw h) (ap bare (pick-append (is_in slot) ps qs h))

-- with a list without a payload of another slot
pub kept-cut :
    (ps : List Loaded) (i slot : ℕ) → i < length ps → is_in slot (get_or ps i no_payload) ≡ false → Kept ps (take i ps ++ drop (suc i) ps) slot
kept-cut ps i slot h e =
    kept_by ps (take i ps ++ drop (suc i) ps) slot (any-cut (is_in slot) i ps h e) (ap bare (pick-cut (is_in slot) i ps h e))

-- and with a list of other statuses and results
pub kept-bare : (ps qs : List Loaded) → map bare qs ≡ map bare ps → (slot : ℕ) → Kept ps qs slot
kept-bare ps qs e slot =
    kept_by ps qs slot
    (sym (holds-bare slot qs) ∙ ap (holds slot) e ∙ holds-bare slot ps)
    (sym (in-bare slot qs) ∙ ap (in_slot slot) e ∙ in-bare slot ps)
