-- The records buffer of a state: where the state's parts stand, and that they are read back.
use Prim.Native.Nat.{ℕ, ◌+◌, ◌*◌, ◌^◌, ◌≤◌, ◌<◌}
use mathlib.Core.Path.{◌≡◌, refl, sym, ap, ◌∙◌}
use mathlib.Core.List.{List, [], ◌∷◌, map}
use native.Mathlib.Omega.{arith}
use borrow.Author.Tests.{eq-eqb}
use lib.ListN.{length, get_or, take}
use Rattle.words.specs.Number.{le_at, le_bytes}
use Rattle.words.proofs.Number.{length-le_bytes}
use Rattle.words.proofs.Order.{equal-same}
use Rattle.records.specs.Payload.{empty}
use Rattle.memory.specs.Config.{cpus_max}
use Rattle.memory.specs.Memory.{slot_count}
use Rattle.state.specs.declared.state.State.{State}
use Rattle.state.proofs.Whole as arrays
use Rattle.state_bytes.specs.Fields.{chained}
use Rattle.state_bytes.specs.Layout.{payload_size, count_place, records_size}
use Rattle.state_bytes.specs.Stored.{payload_bytes, payload_at, config_bytes, config_at, job_bytes, job_at, count_bytes, state_fields, bytes_of, stack_at, payloads_at, state_in, is_state, HoldsState}
use Rattle.state_bytes.proofs.Fields.{sum, Local, le_at-local, length-joined, field_at, row_at, length-table}
use Rattle.state_bytes.proofs.Rows.{rows_at-local}
use Rattle.state_bytes.proofs.Readers.{length-payload, payload_at-local, length-config, config_at-local, length-counts, length-job, job_at-local}
use Rattle.state_writes.proofs.Back.{count_at}

abbrev pub state_widths : List ℕ
state_widths = count_place ∷ 20 ∷ (16 + cpus_max) ∷ (4 * slot_count) ∷ (payload_size * slot_count) ∷ []

pub stack_at-local : Local stack_at (4 * slot_count)
stack_at-local = rows_at-local (le_at 4) 4 slot_count (le_at-local 4)

pub payloads_at-local : Local payloads_at (payload_size * slot_count)
payloads_at-local = rows_at-local payload_at payload_size slot_count payload_at-local

module _ (s : State) (w : arrays.Whole s) where
  pub length-stack : length (chained (map (le_bytes 4) s.stack)) ≡ 4 * slot_count
  length-stack = length-table (le_bytes 4) 4 s.stack 0 (λ i h. length-le_bytes 4 _) ∙ rw w.stack

  length-payloads : length (chained (map payload_bytes s.payloads)) ≡ payload_size * slot_count
  length-payloads =
      length-table payload_bytes payload_size s.payloads empty (λ i h. length-payload _ (w.each_payload i (omega (arith, w.payloads))))
      ∙ rw w.payloads

  pub state-widths : map length (state_fields s) ≡ state_widths
  state-widths = rw (length-config s.config, length-counts s, length-job s.job w.held, length-stack, length-payloads)

  pub length-state : length (bytes_of s) ≡ records_size
  unfolding bytes_of
  length-state = length-joined (state_fields s) state_widths state-widths

  -- what a reader reads of part k
  pub row :
      {A : Type 0} (reader : List ℕ → ℕ → A) (k : ℕ) → Local reader (get_or state_widths k 0) →
      reader (bytes_of s) (sum (take k state_widths)) ≡ reader (get_or (state_fields s) k []) 0
  unfolding bytes_of
  row = row_at (state_fields s) state_widths state-widths

  -- the counts and the version, within their part
  counted : (n i : ℕ) → i + n ≤ 20 → le_at n (bytes_of s) (count_place + i) ≡ le_at n (count_bytes s) i
  unfolding bytes_of
  counted n i h =
      sym (le_at-local n (chained (state_fields s)) count_place 20 i h)
      ∙ ap (λ (l : List ℕ). le_at n l i) (field_at (state_fields s) state_widths state-widths 1)

-- its arrays have their lengths, the counts fit, and each part is read back
pub record StateFits (s : State) : Type 0 where
  pub whole : arrays.Whole s
  pub config : config_at (config_bytes s.config) 0 ≡ s.config
  pub count : s.count < 256 ^ 8
  pub depth : s.depth < 256 ^ 8
  pub version : s.version < 256 ^ 4
  pub job : job_at (job_bytes s.job) 0 ≡ s.job
  pub stack : stack_at (chained (map (le_bytes 4) s.stack)) 0 ≡ s.stack
  pub payloads : payloads_at (chained (map payload_bytes s.payloads)) 0 ≡ s.payloads

module _ (s : State) (fits : StateFits s) where
  pub state-back : state_in (bytes_of s) ≡ s
  unfolding state_in
  state-back =
      let w = fits.whole in
      let number = counted s w in
      rw (
        row s w config_at 0 config_at-local,
        fits.config,
        number 4 16 (omega arith),
        count_at s 2 4 s.version refl refl fits.version,
        number 8 0 (omega arith),
        count_at s 0 8 s.count refl refl fits.count,
        row s w payloads_at 4 payloads_at-local,
        fits.payloads,
        number 8 8 (omega arith),
        count_at s 1 8 s.depth refl refl fits.depth,
        row s w stack_at 3 stack_at-local,
        fits.stack,
        row s w job_at 2 job_at-local,
        fits.job,
      )

  pub holds : (b : List ℕ) → b ≡ bytes_of s → HoldsState s b
  unfolding is_state
  holds b told =
      record {
        bytes = told;
        read = rw told state-back;
        whole = rw (told, state-back, equal-same (bytes_of s), eq-eqb _ _ (length-state s fits.whole));
      }
