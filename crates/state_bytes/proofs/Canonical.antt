-- Bytes of the right number are those of the state that they hold exactly where the bytes that stand for one of two cases have one of
-- two values. Part by part: what is read and stored again is compared with the bytes that it was read from.
use Prim.Native.Nat.{ℕ, zero, suc, ◌+◌, ◌*◌}
use mathlib.Core.Path.{◌≡◌, refl, sym, ap, ◌∙◌}
use mathlib.Core.Bool.{true, ◌&&◌, and-true}
use mathlib.Core.List.{List, [], ◌∷◌, map}
use native.Mathlib.Omega.{arith}
use borrow.Author.Tests.{ne_eqb, lt-leb}
use lib.Dec.{eqb, leb}
use lib.ListN.{length, length-map}
use Rattle.words.specs.Find.{every}
use Rattle.words.specs.Number.{le_at, le_bytes}
use Rattle.words.specs.Order.{equal}
use Rattle.words.specs.Scan.{scan}
use Rattle.words.specs.Splice.{part}
use Rattle.words.proofs.Number.{length-le_bytes}
use Rattle.words.proofs.Splice.{length_part, part-all}
use Rattle.memory.specs.Config.{cpus_max}
use Rattle.memory.specs.Memory.{slot_count}
use Rattle.memory.specs.declared.config.Config.{Config}
use Rattle.state.specs.declared.state.State.{State}
use Rattle.state_bytes.specs.Fields.{chained}
use Rattle.state_bytes.specs.Flags.{flags_ok, edits_ok, kinds_ok}
use Rattle.state_bytes.specs.Layout.{edits_place, payload_size, count_place, job_place, held_place, stack_place, payloads_place, records_size}
use Rattle.state_bytes.specs.Stored.{payload_bytes, payload_at, config_fields, config_bytes, config_at, flag_byte, is_set, job_fields, job_bytes, held_at, job_at, count_fields, count_bytes, state_fields, stack_at, payloads_at, bytes_of, state_in}
use Rattle.state_bytes.proofs.Fields.{length-joined}
use Rattle.state_bytes.proofs.Readers.{config_widths, config-widths, job_widths, job-widths, count_widths, count-widths}
use Rattle.state_bytes.proofs.Same.{Bytes, kept, fields-same, length-rows, rows_same}
use Rattle.state_bytes.proofs.SameRecords.{length-payload, payload_same}

-- ---- a byte for each CPU

flag_same : (x : ℕ) → eqb (flag_byte (is_set x)) x ≡ leb x 1
flag_same zero = refl
flag_same (suc zero) = refl
flag_same (suc (suc x)) =
    simp (ne_eqb (suc (suc x)) 1 (λ e. omega arith), ne_eqb 0 (suc (suc x)) (λ e. omega arith), lt-leb (suc (suc x)) 1 (omega arith))

flags-same : (l : List ℕ) → equal (map flag_byte (map is_set l)) l ≡ every (λ byte. leb byte 1) l
unfolding equal every
flags-same [] = refl
flags-same (x ∷ l) = rw (flag_same x, flags-same l)

-- ---- widths

length-config : (c : Config) → length (config_bytes c) ≡ count_place
unfolding config_bytes
length-config c = length-joined (config_fields c) config_widths (config-widths c)

length-counts : (s : State) → length (count_bytes s) ≡ 20
unfolding count_bytes
length-counts s = length-joined (count_fields s) count_widths (count-widths s)

-- ---- the parts of the state

module _ (b : List ℕ) (known : Bytes b) (whole : length b ≡ records_size) where
  config-same : equal (config_bytes (config_at b 0)) (part b 0 count_place) ≡ true
  unfolding config_bytes config_at
  config-same =
      fields-same b 0 (config_fields (config_at b 0)) config_widths (config-widths (config_at b 0)) (omega arith)
      ∙ rw (
        kept b known 8 0 (omega arith),
        kept b known 8 8 (omega arith),
        kept b known 8 16 (omega arith),
        kept b known 4 24 (omega arith),
        kept b known 4 28 (omega arith),
      )

  count_same : equal (count_bytes (state_in b)) (part b count_place 20) ≡ true
  unfolding count_bytes state_in
  count_same =
      fields-same b count_place (count_fields (state_in b)) count_widths (count-widths (state_in b)) (omega arith)
      ∙ rw (kept b known 8 count_place (omega arith), kept b known 8 (count_place + 8) (omega arith), kept b known 4 (count_place + 16) (omega arith))

  held-length : length (job_at b job_place).held ≡ cpus_max
  unfolding job_at held_at
  held-length = simp (length-map, length_part b held_place cpus_max (omega arith))

  read-widths : map length (job_fields (job_at b job_place)) ≡ job_widths
  read-widths = job-widths (job_at b job_place) held-length

  length-job : length (job_bytes (job_at b job_place)) ≡ 16 + cpus_max
  unfolding job_bytes
  length-job = length-joined (job_fields (job_at b job_place)) job_widths read-widths

  job-same : equal (job_bytes (job_at b job_place)) (part b job_place (16 + cpus_max)) ≡ flags_ok b
  unfolding job_bytes job_at held_at flags_ok
  job-same =
      fields-same b job_place (job_fields (job_at b job_place)) job_widths read-widths (omega arith)
      ∙ rw (
        kept b known 4 job_place (omega arith),
        kept b known 4 (job_place + 4) (omega arith),
        kept b known 4 (job_place + 8) (omega arith),
        kept b known 4 (job_place + 12) (omega arith),
        and-true,
      )
      (flags-same (part b held_place cpus_max))

  stack_same : equal (chained (map (le_bytes 4) (stack_at b stack_place))) (part b stack_place (4 * slot_count)) ≡ true
  unfolding scan
  stack_same =
      rows_same (le_at 4) (le_bytes 4) 4 b stack_place (λ j. true) slot_count
      (λ j h.
      record {
        within = omega arith;
        wide = length-le_bytes 4 _;
        same = kept b known 4 (stack_place + 4 * j) (omega arith);
      })

  payloads-same :
      equal (chained (map payload_bytes (payloads_at b payloads_place))) (part b payloads_place (payload_size * slot_count)) ≡ kinds_ok b
  unfolding kinds_ok
  payloads-same =
      rows_same payload_at payload_bytes payload_size b payloads_place (λ i. edits_ok b (payloads_place + payload_size * i + edits_place)) slot_count
      (λ i h.
      record {
        within = omega arith;
        wide = length-payload b known (payloads_place + payload_size * i) (omega arith);
        same = payload_same b known (payloads_place + payload_size * i) (omega arith);
      })

  abbrev state_widths : List ℕ
  state_widths = count_place ∷ 20 ∷ (16 + cpus_max) ∷ (4 * slot_count) ∷ (payload_size * slot_count) ∷ []

  state-widths : map length (state_fields (state_in b)) ≡ state_widths
  unfolding state_in
  state-widths =
      simp (
        length-config,
        length-counts,
        length-job,
        length-rows (le_at 4) (le_bytes 4) 4 b stack_place slot_count (λ j h. length-le_bytes 4 _),
        length-rows payload_at payload_bytes payload_size b payloads_place slot_count (λ j h. length-payload b known _ (omega arith)),
      )

  -- the tests of flags and kinds decide
  pub canonical : equal (bytes_of (state_in b)) b ≡ (flags_ok b && kinds_ok b)
  unfolding bytes_of state_in
  canonical =
      ap (equal (bytes_of (state_in b))) (sym (part-all b records_size whole))
      ∙ fields-same b 0 (state_fields (state_in b)) state_widths state-widths (omega arith)
      ∙ rw (config-same, count_same, job-same, stack_same, payloads-same, and-true)
