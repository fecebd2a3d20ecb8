-- The payload that a name names, and what a search for it tells.
use Rattle.std.proofs.Common.{◌≡◌, ℕ, ◌<◌, true, List, refl, sym, ◌∙◌, arith, length-take, Some, None, Option, Result, Ok, Err}
use mathlib.Core.Bool.{false≢true}
use Rattle.words.specs.Name.{is_found}
use Rattle.words.proofs.Find.{first-hit}
use Rattle.records.specs.Name.{is_name}
use Rattle.records.specs.Payload.{empty}
use Rattle.records.specs.Verdict.{must}
use Rattle.records.specs.declared.refusal.Place.TheVariants.{Nowhere}
use Rattle.records.specs.declared.refusal.Refusal.{Refusal}
use Rattle.records.proofs.Checks.{must-pass, then-pass, decided-ok, decided-err}
use Rattle.state.specs.Find.{is_named, with_name}
use Rattle.state.specs.State.{loaded}
use Rattle.state.specs.declared.state.State.{State}
use Rattle.actions.specs.Actions.{target_rules, place_of, target_of}

module _ (s : State) (name : List ℕ) where
  -- a payload that was found is in the list
  pub name-hit : (i : ℕ) → with_name s name ≡ Some i → i < s.count
  unfolding with_name
  name-hit i h = omega (arith, (first-hit (is_named name) (loaded s) empty i h).0, length-take s.count s.payloads)

  module _ (command : ℕ) where
    -- where the rules pass, one is found
    found_there : target_rules s name command ≡ Ok tt → is_found (with_name s name) ≡ true
    unfolding target_rules
    found_there pass = must-pass _ _ _ (then-pass _ _ (then-pass (must (is_name name) 22 Nowhere) _ pass).1).0

    -- the answer t: it tells what the rules say, and where the payload stands
    module _ {t : Result ℕ Refusal} (answer : t ≡ target_of s name command) where
      pub target-refused : {r : Refusal} → t ≡ Err r → target_rules s name command ≡ Err r
      unfolding target_of
      target-refused told = decided-err _ _ (sym answer ∙ told)

      module _ {i : ℕ} (told : t ≡ Ok i) where
        pub target-right : target_rules s name command ≡ Ok tt
        unfolding target_of
        target-right = (decided-ok _ _ (sym answer ∙ told)).0

        pub target-place : with_name s name ≡ Some i
        unfolding target_of
        target-place =
            rw ((decided-ok _ (target_rules s name command) (sym answer ∙ told)).1)
            (at_place (with_name s name) (found_there target-right))
          where
            at_place : (f : Option ℕ) → is_found f ≡ true → f ≡ Some (place_of f)
            at_place (Some i) h = refl
            at_place None h = absurd (false≢true h)
