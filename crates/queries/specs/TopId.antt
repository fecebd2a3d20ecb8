-- The top build-id. Document 01: "The id the stack stands on is the top payload's, or the hypervisor's when nothing is applied".
use Rattle.records.specs.Refusal.{Verdict}
use Rattle.std.specs.Prelude.{ℕ, ◌-◌, Bool, cond, ◌&&◌, ◌≡◌, List, [], leb, eqb, length, get_or}
use Rattle.words.specs.Splice.{part}
use Rattle.records.specs.Verdict.{must, decide}
use Rattle.records.specs.declared.refusal.Place.TheVariants.{Nowhere}
use Rattle.memory.specs.Memory.{id_at, ids_size}
use Rattle.state.specs.Find.{payload_in}
use Rattle.state.specs.declared.state.State.{State}
use Rattle.ranges.specs.Ranges.{in_range}
use Rattle.queries.specs.declared.top_id.IdPlace.{IdPlace}

-- the slot of the payload that was applied last
abbrev pub top_slot : State → ℕ
top_slot s = get_or s.stack (s.depth - 1) 0

-- "it is handed out as a part of whichever lent buffer holds it"
unfoldable pub top_id : State → List ℕ → List ℕ → List ℕ
top_id s build_id ids = cond (eqb s.depth 0) build_id (part ids (id_at (top_slot s)) (payload_in s (top_slot s)).id_length)

-- the same part by its place: 0 for the hypervisor's build-id or 1 for the id store, where it begins there, and its length
abbrev pub id_place : ℕ → ℕ → ℕ → IdPlace
id_place buffer offset length = record { buffer = buffer; offset = offset; length = length }

unfoldable pub top_place : State → IdPlace
top_place s =
    cond (eqb s.depth 0) (id_place 0 0 s.config.id_length)
    (id_place 1 (id_at (top_slot s)) (payload_in s (top_slot s)).id_length)

-- the bytes at a place
abbrev pub id_there : IdPlace → List ℕ → List ℕ → List ℕ
id_there p build_id ids = part (cond (eqb p.buffer 0) build_id ids) p.offset p.length

-- the numbers of the state and the lent sizes are right
unfoldable pub id_sizes_ok : State → ℕ → ℕ → Bool
id_sizes_ok s build_id ids = in_range s && eqb build_id s.config.id_length && eqb ids ids_size

abbrev pub id_rules : State → List ℕ → List ℕ → Verdict
id_rules s build_id ids = must (id_sizes_ok s (length build_id) (length ids)) 22 Nowhere

-- where they are not, the part that is handed out is empty
unfoldable pub top_id_of : State → List ℕ → List ℕ → List ℕ
top_id_of s build_id ids = decide (λ r. []) (top_id s build_id ids) (id_rules s build_id ids)

-- what a part that is handed out says: the empty one is 22, as an id has at least one byte
abbrev pub id_verdict : List ℕ → Verdict
id_verdict id = must (leb 1 (length id)) 22 Nowhere

-- all that `top_build_id` promises of the part id that it hands out
pub record HandsOut (s : State) (build_id ids id : List ℕ) : Type 0 where
  pub equal : id ≡ top_id_of s build_id ids
  pub verdict : id_verdict id ≡ id_rules s build_id ids
