-- K10 holds of the reference model; K1 to K9 are laws of `acceptance`; the sizes follow from the limits.
use Rattle.std.proofs.Common.{Some, Ok}
use Prim.Native.Nat.{ℕ}
use mathlib.Core.Path.{◌≡◌, refl, ap}
use mathlib.Core.Bool.{true, false}
use mathlib.Core.List.{List, [], ◌∷◌}
use lib.ListN.{get_or}
use Rattle.words.specs.Find.{where_from}
use Rattle.words.specs.Address.{stored}
use Rattle.words.specs.Name.{zero_from}
use Rattle.words.specs.Number.{le_bytes}
use Rattle.words.specs.Order.{equal}
use Rattle.words.specs.Scan.{scan}
use Rattle.words.specs.Splice.{part, splice}
use Rattle.records.specs.Name.{is_name}
use Rattle.records.specs.Payload.{kept_name}
use Rattle.records.specs.Verdict.{must}
use Rattle.records.specs.declared.refusal.Place.TheVariants.{Nowhere}
use Rattle.acceptance.proofs.KnownAnswers.{known-answers}
use Rattle.model.specs.Calls.{Buffers, Act, ListFrom, Says, Lists}
use Rattle.model.specs.Model.{Loaded, Model, no_payload}
use Rattle.model.specs.Step.{
  told,
  with_name,
  named,
  with_result,
  changed_found,
  act,
  request_rules,
  condition_rules,
  list_from,
  joined,
  has_room,
  step,
  replies,
}
use Rattle.known.specs.Sizes.{KnownSizes}
use Rattle.known.specs.Table.{p2, Applied, listed, KnownTable}

module _ {l : Model} {first second : Loaded} (k : Applied l first second) where
  -- p2 is the second
  found : with_name l p2 ≡ Some 1
  unfolding with_name where_from equal
  found = rw (k.payloads, k.first_name, k.second_name) refl

  is-second : named l p2 ≡ second
  is-second = rw found (ap (λ (ps : List Loaded). get_or ps 1 no_payload) k.payloads)

  -- nothing is in the way of the request,
  requested : request_rules l p2 2 ≡ Ok tt
  unfolding request_rules is_name zero_from scan
  requested = rw (found, k.idle) refl

  -- but its status
  refused : condition_rules l 2 (named l p2) ≡ must false 22 Nowhere
  unfolding condition_rules
  refused = rw (is-second, k.second_status) refl

  abbrev left : Model
  left = changed_found (with_result 22) l (Some 1)

  acted : (time : ℕ) → act l p2 2 time ≡ told left (Says (must false 22 Nowhere))
  unfolding act
  acted time = rw (requested, refused, found) refl

  module _ (b : Buffers) (room : has_room 8 b ≡ true) where
    listing : list_from left 0 8 b ≡ Lists (Ok tt) 2 0 2 (listed b)
    unfolding list_from joined kept_name splice part le_bytes stored
    listing = rw (room, k.version, k.payloads, k.first_name, k.first_status, k.first_result, k.second_name, k.second_status) refl

    answers : (time : ℕ) → replies l (Act p2 2 time ∷ ListFrom 0 8 b ∷ []) ≡ Says (must false 22 Nowhere) ∷ Lists (Ok tt) 2 0 2 (listed b) ∷ []
    unfolding replies step
    answers time = rw (acted time, listing) refl

-- each size is its number by computation
known-sizes : KnownSizes
known-sizes =
    record { undo = refl; undo_record = λ s r. refl; ids = refl; work_steps = refl; edits = refl; summary = refl; records = refl }

pub known-table : KnownTable
known-table = record { of_sizes = known-sizes; of_payloads = known-answers; k10 = λ l first second time b k room. answers k b room time }
