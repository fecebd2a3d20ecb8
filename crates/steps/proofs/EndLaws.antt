-- The first elements of a list changed, one after the other; and what the stack's change leaves as it was.
use Prim.Native.Nat.{ℕ, zero, suc, ◌<◌}
use mathlib.Core.Path.{◌≡◌, refl, ap}
use mathlib.Core.Bool.{Bool, true, false, cond}
use mathlib.Core.List.{List, [], ◌∷◌, ◌++◌, map}
use native.Mathlib.Omega.{arith}
use lib.Dec.{eqb}
use lib.ListN.{length, get_or, set, take, drop}
use lib.Seq.{get_or-set_same, set-set}
use Rattle.records.specs.Payload.{empty}
use Rattle.records.specs.declared.payload.Payload.{Payload}
use Rattle.state.specs.Change.{changed_at}
use Rattle.state.specs.Find.{payload_at}
use Rattle.state.specs.State.{revert, apply, with_payloads}
use Rattle.state.specs.declared.state.State.{State}
use Rattle.steps.specs.Next.{stack_set}

-- the first n elements changed by f
module _ {A : Type 0} (f : A → A) where
  abbrev pub first_of : ℕ → List A → List A
  first_of n xs = map f (take n xs) ++ drop n xs

  pub first-turn : (xs : List A) (i : ℕ) (d : A) → i < length xs → set (first_of i xs) i (f (get_or (first_of i xs) i d)) ≡ first_of (suc i) xs
  first-turn [] i d h = absurd (omega arith)
  first-turn (x ∷ xs) zero d h = refl
  first-turn (x ∷ xs) (suc i) d h = ap (λ (l : List A). f x ∷ l) (first-turn xs i d (omega arith))

-- a payload changed twice
pub changed-twice :
    (f g : Payload → Payload) (s : State) (i : ℕ) → i < length s.payloads → changed_at g (changed_at f s i) i ≡ changed_at (λ p. g (f p)) s i
changed-twice f g s i h =
    let once = f (payload_at s i) in
    let both : set (set s.payloads i once) i (g (get_or (set s.payloads i once) i empty)) ≡ set s.payloads i (g once) =
    rw (get_or-set_same s.payloads i once empty h) (set-set s.payloads i once (g once)) in
    ap (λ (ps : List Payload). with_payloads ps s) both

-- what the stack's change leaves as it was
part-if :
    {A : Type 0} (part : State → A) (r a : Bool) (s t u v : State) → part t ≡ part s → part u ≡ part s → part v ≡ part s →
    part (cond r t (cond a u v)) ≡ part s
part-if part true a s t u v e f g = e
part-if part false true s t u v e f g = f
part-if part false false s t u v e f g = g

pub stack-counts : (s : State) → (stack_set s).count ≡ s.count
unfolding stack_set
stack-counts s = part-if (λ (t : State). t.count) (eqb s.job.action revert) (eqb s.job.action apply) s _ _ _ refl refl refl

pub stack-job : (s : State) → (stack_set s).job ≡ s.job
unfolding stack_set
stack-job s = part-if (λ (t : State). t.job) (eqb s.job.action revert) (eqb s.job.action apply) s _ _ _ refl refl refl
