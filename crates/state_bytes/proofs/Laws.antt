-- Bytes that are a state's: their number, the state that they hold, and its arrays.
use Prim.Native.Nat.{ℕ, ◌+◌, ◌*◌, ◌≤◌, ◌<◌}
use mathlib.Core.Path.{◌≡◌, refl, sym, subst⁻¹, ◌∙◌}
use mathlib.Core.Bool.{true}
use mathlib.Core.List.{List}
use native.Mathlib.Nat.{zero-add}
use native.Mathlib.Omega.{arith}
use borrow.Author.Tests.{eqb-true}
use lib.Dec.{eqb}
use lib.ListN.{length, length-map}
use Rattle.words.specs.Order.{equal}
use Rattle.words.proofs.Order.{equal-true}
use Rattle.words.proofs.Scan.{length-each, get_or-each}
use Rattle.words.proofs.Splice.{length_part}
use Rattle.words.proofs.Tests.{both}
use Rattle.records.specs.Limits.{name_max, id_max, records_max}
use Rattle.records.specs.Payload.{empty}
use Rattle.memory.specs.Config.{cpus_max}
use Rattle.memory.specs.Memory.{slot_count}
use Rattle.state.specs.Find as find
use Rattle.state.proofs.Whole.{WholePayload, Whole}
use Rattle.state_bytes.specs.Fields.{rows_at}
use Rattle.state_bytes.specs.Layout.{dependency_place, payload_size, held_place, payloads_place, records_size}
use Rattle.state_bytes.specs.Stored.{payload_at, held_at, job_at, bytes_of, state_in, is_state, HoldsState}

module _ (b : List ℕ) (h : is_state b ≡ true) where
  pub state-length : length b ≡ records_size
  unfolding is_state
  state-length = eqb-true _ _ (both (eqb (length b) records_size) (equal (bytes_of (state_in b)) b) h).0

  pub state-same : bytes_of (state_in b) ≡ b
  unfolding is_state
  state-same = equal-true _ _ (both (eqb (length b) records_size) (equal (bytes_of (state_in b)) b) h).1

  -- bytes that nothing was written to
  pub holds-still : HoldsState (state_in b) b
  holds-still = record { bytes = sym state-same; read = refl; whole = h }

-- the payload at a place of the list, where it stands
pub payload-there : (b : List ℕ) (i : ℕ) → i < slot_count → find.payload_at (state_in b) i ≡ payload_at b (payloads_place + payload_size * i)
unfolding state_in rows_at
payload-there b i h =
    get_or-each (λ j. payload_at b (payloads_place + payload_size * j)) 0 slot_count i empty h ∙ rw (zero-add i)

whole-payload-at : (b : List ℕ) (at : ℕ) → at + payload_size ≤ length b → WholePayload (payload_at b at)
unfolding payload_at rows_at
whole-payload-at b at h =
    record {
      name = length_part b at name_max (omega arith);
      dependency = length_part b (at + dependency_place) id_max (omega arith);
      edits = length-each _ 0 records_max;
    }

pub whole_in : (b : List ℕ) → length b ≡ records_size → Whole (state_in b)
unfolding state_in rows_at job_at held_at
whole_in b long =
    record {
      payloads = length-each _ 0 slot_count;
      each_payload = λ i h. subst⁻¹ WholePayload (payload-there b i h) (whole-payload-at b (payloads_place + payload_size * i) (omega (arith, long)));
      stack = length-each _ 0 slot_count;
      held = simp (length-map, length_part b held_place cpus_max (omega arith));
    }
