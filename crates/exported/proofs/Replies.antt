-- What the exported functions return, by what the calls on the state answered.
use Rattle.std.proofs.Common.{Result, Ok, Err}
use Prim.Native.Nat.{ℕ, suc}
use mathlib.Core.Path.{◌≡◌, refl, ap, ◌∙◌}
use mathlib.Core.Bool.{Bool, true, false, cond, ◌&&◌}
use mathlib.Core.List.{List, [], ◌∷◌}
use native.Mathlib.Omega.{arith}
use borrow.Author.Tests.{eq-eqb, ne_eqb}
use lib.Dec.{eqb}
use lib.ListN.{length}
use Rattle.records.specs.Refusal.{verdict_code, Verdict}
use Rattle.records.specs.declared.refusal.Refusal.{Refusal}
use Rattle.state.specs.declared.state.State.{State}
use Rattle.state_bytes.specs.Stored.{state_in, is_state}
use Rattle.queries.specs.Get.{get_of}
use Rattle.queries.specs.TopId as top
use Rattle.queries.specs.declared.get.Got.{Got}
use Rattle.listing.specs.List as list
use Rattle.listing.specs.declared.Listed.{Listed}
use Rattle.questions.specs.Questions.{Asked, asked, right_buffers, get_size, get_answer, get_asked, list_size, listed_answer, list_answer, ListAsked, list_asking, list_asked, top_size, place_bytes, top_asked}
use Rattle.calls.specs.Told.{Told, told, invalid, stored, over_records}
use Rattle.model.specs.Calls as model
use Rattle.model.specs.Model.{Model}
use Rattle.refinement.specs.Replies.{tells_of, lists_of}
use Rattle.refinement.specs.Stands.{Loader, record_of, Stands}
use Rattle.refinement.proofs.Lookups.{payload-in, top-slot}
use Rattle.refinement.proofs.Queries.{listing_reply}
use Rattle.exported.specs.Calls.{Reply, Fills, FillsList, number_for, out_for, buffers_for, top_place_over, top_place_of}

-- ---- a call that changes the state, on records that are a state's

module _ {M : Type 0} (b : List ℕ) (m : M) (v : Verdict) (s : State) (m₂ : M) {m' : M} {answer : ℕ} {after : List ℕ} (whole : is_state b ≡ true) where
  pub told-apart : told answer after m' ≡ over_records b m (stored v s m₂) → (answer ≡ verdict_code v) × (m' ≡ m₂)
  told-apart e =
      let same : told answer after m' ≡ stored v s m₂ = e ∙ rw whole in
      (ap (λ (t : Told M). t.answer) same, ap (λ (t : Told M). t.memory) same)

-- ---- get and list

abbrev fills_of : Asked → Reply
fills_of a = Fills a.answer a.out

abbrev pub plain_buffers : list.Buffers → model.Buffers
plain_buffers b = record { statuses = b.statuses; names = b.names; lengths = b.lengths }

abbrev fills_list_of : ListAsked → Reply
fills_list_of x = FillsList x.asked.answer x.asked.out (plain_buffers x.buffers)

-- the answer decides what is returned and what the out buffer holds
fills-got : (g : Result Got Refusal) (out : List ℕ) → fills_of (get_answer g out) ≡ Fills (number_for (tells_of g)) (out_for out (tells_of g))
fills-got (Ok g) out = refl
fills-got (Err r) out = refl

fills-listed :
    (after : list.Buffers) (x : Result Listed Refusal) (out : List ℕ) (b : model.Buffers) →
    let reply : model.Reply = lists_of (plain_buffers after) x in
    fills_list_of (list_asking (listed_answer x out) after) ≡ FillsList (number_for reply) (out_for out reply) (buffers_for b reply)
fills-listed after (Ok x) out b = refl
fills-listed after (Err r) out b = refl

-- where the records are a state's, only the size of the out buffer is asked
right_by : (b : List ℕ) (n size : ℕ) → is_state b ≡ true → right_buffers b n size ≡ eqb n size
right_by b n size whole = rw whole (and-true (eqb n size))
  where
    and-true : (t : Bool) → (t && true) ≡ t
    and-true true = refl
    and-true false = refl

module _ (b : List ℕ) (whole : is_state b ≡ true) where
  pub get-fills :
      (name out : List ℕ) {answer : ℕ} {after : List ℕ} → asked answer after ≡ get_asked b name out →
      let reply : model.Reply = tells_of (get_of (state_in b) name) in
      Fills answer after ≡ cond (eqb (length out) get_size) (Fills (number_for reply) (out_for out reply)) (Fills invalid out)
  unfolding get_asked
  get-fills name out told-so = ap fills_of told-so ∙ rw (right_by b (length out) get_size whole) (by_size (eqb (length out) get_size))
    where
      g : Result Got Refusal
      g = get_of (state_in b) name

      by_size :
          (t : Bool) →
          fills_of (cond t (get_answer g out) (asked invalid out))
          ≡ cond t (Fills (number_for (tells_of g)) (out_for out (tells_of g))) (Fills invalid out)
      by_size true = fills-got g out
      by_size false = refl

  pub list-fills :
      (idx nr : ℕ) (lent : list.Buffers) (out : List ℕ) {answer : ℕ} {after : List ℕ} {buffers : list.Buffers} →
      list_asking (asked answer after) buffers ≡ list_asked b idx nr lent out →
      let reply : model.Reply = listing_reply (list.list_of (state_in b) idx nr lent) in
      FillsList answer after (plain_buffers buffers)
      ≡ cond (eqb (length out) list_size) (FillsList (number_for reply) (out_for out reply) (buffers_for (plain_buffers lent) reply))
      (FillsList invalid out (plain_buffers lent))
  unfolding list_asked
  list-fills idx nr lent out told-so =
      ap fills_list_of told-so ∙ rw (right_by b (length out) list_size whole) (by_size (eqb (length out) list_size))
    where
      x : list.Listing
      x = list.list_of (state_in b) idx nr lent

      reply : model.Reply
      reply = listing_reply x

      by_size :
          (t : Bool) →
          fills_list_of (cond t (list_answer x out) (list_asking (asked invalid out) lent))
          ≡ cond t (FillsList (number_for reply) (out_for out reply) (buffers_for (plain_buffers lent) reply))
          (FillsList invalid out (plain_buffers lent))
      by_size true = fills-listed x.after x.answer out (plain_buffers lent)
      by_size false = refl

  pub top-fills :
      (build_id ids out : List ℕ) {answer : ℕ} {after : List ℕ} → top.id_sizes_ok (state_in b) (length build_id) (length ids) ≡ true →
      asked answer after ≡ top_asked b build_id ids out →
      Fills answer after ≡ cond (eqb (length out) top_size) (Fills 0 (place_bytes (top.top_place (state_in b)))) (Fills invalid out)
  unfolding top_asked
  top-fills build_id ids out sizes told-so =
      ap fills_of told-so ∙ rw (right_by b (length out) top_size whole, sizes) (by_size (eqb (length out) top_size))
    where
      by_size :
          (t : Bool) →
          fills_of (cond t (asked 0 (place_bytes (top.top_place (state_in b)))) (asked invalid out))
          ≡ cond t (Fills 0 (place_bytes (top.top_place (state_in b)))) (Fills invalid out)
      by_size true = refl
      by_size false = refl

-- ---- the place of the top build-id is the model's

module _ {u : Loader} {l : Model} (k : Stands u l) where
  place-over : (stack : List ℕ) → l.stack ≡ stack → top.top_place u.state ≡ top_place_over l stack
  unfolding top.top_place record_of
  place-over [] e =
      let none : u.state.depth ≡ 0 = k.state.depth ∙ ap length e in
      rw (eq-eqb _ 0 none, k.state.config)
  place-over (slot ∷ older) e =
      let deep : u.state.depth ≡ suc (length older) = k.state.depth ∙ ap length e in
      rw (ne_eqb u.state.depth 0 (λ z. omega arith), top-slot k.state slot older e, payload-in k.state slot)

  pub place-agrees : top.top_place u.state ≡ top_place_of l
  unfolding top_place_of
  place-agrees = place-over l.stack refl
