-- The calls that change nothing but the caller's buffers: get, list and the top build-id, over the records buffer.
use Rattle.std.specs.Prelude.{ℕ, Bool, cond, ◌&&◌, List, ◌++◌, eqb, length, Result, Ok, Err}
use Rattle.words.specs.Number.{le_bytes}
use Rattle.records.specs.Refusal.{refusal_code}
use Rattle.records.specs.Verdict.{decide}
use Rattle.records.specs.declared.refusal.Refusal.{Refusal}
use Rattle.state.specs.declared.state.State.{State}
use Rattle.queries.specs.Get.{get_of}
use Rattle.queries.specs.TopId.{id_rules, top_place}
use Rattle.queries.specs.declared.get.Got.{Got}
use Rattle.queries.specs.declared.top_id.IdPlace.{IdPlace}
use Rattle.listing.specs.List as list
use Rattle.listing.specs.declared.Listed.{Listed}
use Rattle.state_bytes.specs.Stored.{state_in, is_state}
use Rattle.calls.specs.Told.{invalid}

-- what is returned, and the out buffer after it
pub record Asked : Type 0 where
  pub answer : ℕ
  pub out : List ℕ

abbrev pub asked : ℕ → List ℕ → Asked
asked answer out = record { answer = answer; out = out }

-- an out buffer of another size, and bytes that are no state, get 22, and nothing is changed
abbrev pub right_buffers : List ℕ → ℕ → ℕ → Bool
right_buffers b out size = eqb out size && is_state b

-- ---- get: "status and result", 4 bytes each

abbrev pub get_size : ℕ
get_size = 8

abbrev pub got_bytes : Got → List ℕ
got_bytes g = le_bytes 4 g.status ++ le_bytes 4 g.result

abbrev pub get_answer : Result Got Refusal → List ℕ → Asked
get_answer (Ok g) out = asked 0 (got_bytes g)
get_answer (Err r) out = asked (refusal_code r) out

unfoldable pub get_asked : List ℕ → List ℕ → List ℕ → Asked
get_asked b name out = cond (right_buffers b (length out) get_size) (get_answer (get_of (state_in b) name) out) (asked invalid out)

-- ---- list: "count written, count left, version", 4 bytes each

abbrev pub list_size : ℕ
list_size = 12

abbrev pub listed_bytes : Listed → List ℕ
listed_bytes x = le_bytes 4 x.written ++ le_bytes 4 x.left ++ le_bytes 4 x.version

-- the answer, and the out buffer and list's three after it
pub record ListAsked : Type 0 where
  pub asked : Asked
  pub buffers : list.Buffers

abbrev pub list_asking : Asked → list.Buffers → ListAsked
list_asking a b = record { asked = a; buffers = b }

abbrev pub listed_answer : Result Listed Refusal → List ℕ → Asked
listed_answer (Ok x) out = asked 0 (listed_bytes x)
listed_answer (Err r) out = asked (refusal_code r) out

abbrev pub list_answer : list.Listing → List ℕ → ListAsked
list_answer x out = list_asking (listed_answer x.answer out) x.after

unfoldable pub list_asked : List ℕ → ℕ → ℕ → list.Buffers → List ℕ → ListAsked
list_asked b idx nr lent out =
    cond (right_buffers b (length out) list_size) (list_answer (list.list_of (state_in b) idx nr lent) out) (list_asking (asked invalid out) lent)

-- ---- the top build-id: which buffer holds it (0 the build-id, 1 the id store), where in it, and its length, 4 bytes each

abbrev pub top_size : ℕ
top_size = 12

abbrev pub place_bytes : IdPlace → List ℕ
place_bytes p = le_bytes 4 p.buffer ++ le_bytes 4 p.offset ++ le_bytes 4 p.length

abbrev pub top_answer : State → List ℕ → List ℕ → List ℕ → Asked
top_answer s build_id ids out =
    decide (λ r. asked (refusal_code r) out) (asked 0 (place_bytes (top_place s))) (id_rules s build_id ids)

unfoldable pub top_asked : List ℕ → List ℕ → List ℕ → List ℕ → Asked
top_asked b build_id ids out =
    cond (right_buffers b (length out) top_size) (top_answer (state_in b) build_id ids out) (asked invalid out)
