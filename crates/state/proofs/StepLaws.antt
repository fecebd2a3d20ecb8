-- How many steps a job has: as many as its payloads have edits.
use Prim.Native.Nat.{ℕ, ◌+◌}
use mathlib.Core.Path.{◌≡◌, refl, ◌∙◌}
use mathlib.Core.Bool.{true}
use mathlib.Core.List.{List, [], ◌∷◌, reverse, reverse_aux}
use native.Mathlib.Nat.{add-zero}
use native.Mathlib.Omega.{arith}
use lib.ListN.{length, length-append}
use Rattle.words.proofs.Scan.{length-each}
use Rattle.records.specs.declared.payload.Payload.{Payload}
use Rattle.state.specs.Find.{payload_in}
use Rattle.state.specs.Steps.{step_for, layings, removals, removals_in}
use Rattle.state.specs.declared.state.State.{State}

module _ (p : Payload) where
  pub length-layings : length (layings p) ≡ p.edit_count
  unfolding layings
  length-layings = length-each (step_for true p) 0 p.edit_count

  pub length-removals : length (removals p) ≡ p.edit_count
  unfolding removals
  length-removals = length-each _ 0 p.edit_count

module _ (s : State) where
  pub length-removals-in :
      (slot : ℕ) (older : List ℕ) → length (removals_in s (slot ∷ older)) ≡ (payload_in s slot).edit_count + length (removals_in s older)
  unfolding removals_in
  length-removals-in slot older = rw (length-append, length-removals)

  pub length-removals-none : length (removals_in s []) ≡ 0
  unfolding removals_in
  length-removals-none = refl

  -- in either order
  removals-aux : (a b : List ℕ) → length (removals_in s (reverse_aux a b)) ≡ length (removals_in s a) + length (removals_in s b)
  removals-aux [] b = rw length-removals-none (omega arith)
  removals-aux (x ∷ a) b = rw (removals-aux a (x ∷ b), length-removals-in x b, length-removals-in x a) (omega arith)

  pub length-removals-reverse : (slots : List ℕ) → length (removals_in s (reverse slots)) ≡ length (removals_in s slots)
  length-removals-reverse slots = removals-aux slots [] ∙ rw (length-removals-none, add-zero)
