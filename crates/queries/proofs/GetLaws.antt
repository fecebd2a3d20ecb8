-- The last result as a 32-bit number, where a payload of a name stands, and what get answers by what was found.
use Rattle.std.proofs.Common.{Some, None, Ok, Err}
use Prim.Native.Nat.{ℕ, zero, suc, ◌-◌, ◌^◌, ◌≤◌, ◌<◌}
use mathlib.Core.Path.{◌≡◌, refl}
use mathlib.Core.Bool.{true, false}
use mathlib.Core.List.{List}
use native.Mathlib.Omega.{arith}
use lib.ListN.{length-take}
use Rattle.words.specs.Address.{stored}
use Rattle.words.proofs.Find.{first-hit}
use Rattle.records.specs.Name.{is_name}
use Rattle.records.specs.Payload.{empty}
use Rattle.records.specs.Verdict.{refusal}
use Rattle.records.specs.declared.refusal.Place.TheVariants.{Nowhere}
use Rattle.records.specs.declared.refusal.Reason.TheVariants.{NotLoaded, Invalid}
use Rattle.state.specs.Find.{is_named, with_name, payload_at}
use Rattle.state.specs.State.{result_word, loaded}
use Rattle.state.specs.declared.state.State.{State}
use Rattle.ranges.specs.Ranges.{in_range}
use Rattle.queries.specs.Get.{got, get_rules, get_of}

pub no_result : result_word 0 ≡ 0
unfolding stored
no_result = refl

pub some_result : (n : ℕ) → 1 ≤ n → n ≤ 2 ^ 32 → result_word n ≡ 2 ^ 32 - n
unfolding stored
some_result zero some within = absurd (omega arith)
some_result (suc n) some within = omega arith

-- a payload that was found is in the list
pub name-hit : (s : State) (name : List ℕ) (i : ℕ) → with_name s name ≡ Some i → i < s.count
unfolding with_name
name-hit s name i h =
    let f = first-hit (is_named name) (loaded s) empty i h in
    omega (arith, f.0, length-take s.count s.payloads)

-- ---- the answer, by the tests in their order

module _ (s : State) (name : List ℕ) where
  pub get-out : in_range s ≡ false → Err (refusal Invalid Nowhere) ≡ get_of s name
  unfolding get_of get_rules
  get-out h = rw h

  module _ (known : in_range s ≡ true) where
    pub get-unnamed : is_name name ≡ false → Err (refusal Invalid Nowhere) ≡ get_of s name
    unfolding get_of get_rules
    get-unnamed h = rw (known, h)

    module _ (named : is_name name ≡ true) where
      pub get-missing : with_name s name ≡ None → Err (refusal NotLoaded Nowhere) ≡ get_of s name
      unfolding get_of get_rules
      get-missing h = rw (known, named, h)

      pub get-found : (i : ℕ) → with_name s name ≡ Some i → Ok (got (payload_at s i)) ≡ get_of s name
      unfolding get_of get_rules
      get-found i h = rw (known, named, h)
