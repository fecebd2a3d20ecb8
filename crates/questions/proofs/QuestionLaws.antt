-- Get, list and the top build_id over the records buffer, by what the calls on the state answered.
use Rattle.std.proofs.Common.{Result, map, append-nil, append_assoc}
use Prim.Native.Nat.{ℕ}
use mathlib.Core.Path.{◌≡◌, sym, ap, subst, ◌∙◌}
use mathlib.Core.Bool.{true, false}
use mathlib.Core.List.{List, [], ◌∷◌, ◌++◌}
use borrow.Author.Tests.{eqb-true}
use lib.Dec.{eqb}
use lib.ListN.{length}
use Rattle.words.specs.Number.{le_bytes}
use Rattle.words.proofs.Tests.{both}
use Rattle.records.specs.declared.refusal.Refusal.{Refusal}
use Rattle.queries.specs.Get.{get_of}
use Rattle.queries.specs.TopId.{top_place, id_sizes_ok}
use Rattle.queries.specs.declared.get.Got.{Got}
use Rattle.queries.specs.declared.top_id.IdPlace.{IdPlace}
use Rattle.listing.specs.List as list
use Rattle.listing.specs.declared.Listed.{Listed}
use Rattle.state_bytes.specs.Fields.{chained}
use Rattle.state_bytes.specs.Layout.{records_size}
use Rattle.state_bytes.specs.Stored.{state_in, is_state}
use Rattle.questions.specs.Questions.{Asked, asked, right_buffers, get_size, get_answer, get_asked, list_size, listed_answer, list_answer, list_asking, list_asked, top_size, place_bytes, top_asked}
use Rattle.calls.specs.Told.{invalid}
use Rattle.state_bytes.proofs.Laws.{state-length}

-- ---- numbers one behind the other

pub two-chained : (a b : ℕ) → chained (map (le_bytes 4) (a ∷ b ∷ [])) ≡ le_bytes 4 a ++ le_bytes 4 b
unfolding chained
two-chained a b = simp append-nil

pub three-chained : (a b c : ℕ) → chained (map (le_bytes 4) (a ∷ b ∷ c ∷ [])) ≡ le_bytes 4 a ++ le_bytes 4 b ++ le_bytes 4 c
unfolding chained
three-chained a b c = simp (append-nil, append_assoc)

-- ---- right buffers

module _ (b : List ℕ) (out size : ℕ) (right : right_buffers b out size ≡ true) where
  pub right-out : out ≡ size
  right-out = eqb-true _ _ (both (eqb out size) (is_state b) right).0

  pub right-records : length b ≡ records_size
  right-records = state-length b (both (eqb out size) (is_state b) right).1

-- ---- get

module _ (b name out : List ℕ) where
  pub get-wrong : {answer : ℕ} → right_buffers b (length out) get_size ≡ false → answer ≡ invalid → asked answer out ≡ get_asked b name out
  unfolding get_asked
  get-wrong wrong e = rw (wrong, e)

  pub get-told :
      (g : Result Got Refusal) {a : Asked} → right_buffers b (length out) get_size ≡ true → g ≡ get_of (state_in b) name → a ≡ get_answer g out →
      a ≡ get_asked b name out
  unfolding get_asked
  get-told g right e answered = answered ∙ rw (right, e)

-- ---- list

module _ (b : List ℕ) (idx nr : ℕ) (lent : list.Buffers) (out : List ℕ) where
  pub list-wrong :
      {answer : ℕ} → right_buffers b (length out) list_size ≡ false → answer ≡ invalid →
      list_asking (asked answer out) lent ≡ list_asked b idx nr lent out
  unfolding list_asked
  list-wrong wrong e = rw (wrong, e)

  pub list-told :
      (x : Result Listed Refusal) (after : list.Buffers) {a : Asked} → right_buffers b (length out) list_size ≡ true →
      list.listing x after ≡ list.list_of (state_in b) idx nr lent → a ≡ listed_answer x out → list_asking a after ≡ list_asked b idx nr lent out
  unfolding list_asked
  list-told x after right e answered =
      ap (λ (a : Asked). list_asking a after) answered ∙ ap (λ (y : list.Listing). list_answer y out) e ∙ rw right

-- ---- the top build_id

module _ (b build_id ids out : List ℕ) where
  pub top-wrong : {answer : ℕ} → right_buffers b (length out) top_size ≡ false → answer ≡ invalid → asked answer out ≡ top_asked b build_id ids out
  unfolding top_asked
  top-wrong wrong e = rw (wrong, e)

  module _ {answer : ℕ} (right : right_buffers b (length out) top_size ≡ true) where
    pub top-refused :
        id_sizes_ok (state_in b) (length build_id) (length ids) ≡ false → answer ≡ invalid → asked answer out ≡ top_asked b build_id ids out
    unfolding top_asked
    top-refused sizes e = rw (right, sizes, e)

  pub top-told :
      (p : IdPlace) {after : List ℕ} → right_buffers b (length out) top_size ≡ true →
      id_sizes_ok (state_in b) (length build_id) (length ids) ≡ true → p ≡ top_place (state_in b) → after ≡ place_bytes p →
      asked 0 after ≡ top_asked b build_id ids out
  unfolding top_asked
  top-told p right sizes e written = rw (right, sizes, written) (ap (λ (x : IdPlace). asked 0 (place_bytes x)) e)
