-- The parts of the state: how wide their fields are, and that their readers look at so many bytes only.
use Prim.Native.Nat.{ℕ, ◌+◌, ◌*◌, ◌≤◌}
use mathlib.Core.Path.{◌≡◌}
use mathlib.Core.List.{List, [], ◌∷◌, map}
use native.Mathlib.Omega.{arith}
use lib.ListN.{length, length-map}
use Rattle.words.specs.Number.{le_at}
use Rattle.words.specs.Splice.{part}
use Rattle.words.proofs.Number.{length-le_bytes}
use Rattle.records.specs.Limits.{name_max, id_max, records_max}
use Rattle.records.specs.declared.payload.Edit.{Edit}
use Rattle.records.specs.declared.payload.EditKind.TheVariants.{Fill}
use Rattle.records.specs.declared.payload.Payload.{Payload}
use Rattle.memory.specs.Config.{cpus_max}
use Rattle.memory.specs.declared.config.Config.{Config}
use Rattle.state.specs.declared.state.Job.{Job}
use Rattle.state.specs.declared.state.State.{State}
use Rattle.state.proofs.Whole.{WholePayload}
use Rattle.state_bytes.specs.Fields.{chained}
use Rattle.state_bytes.specs.Layout.{edit_size, payload_size, count_place, dependency_place, edit_count_place, edits_place}
use Rattle.state_bytes.specs.Stored.{edit_fields, stored_edit, edit_at, edits_at, number_fields, payload_fields, payload_bytes, payload_at, config_fields, config_bytes, config_at, job_fields, job_bytes, held_at, job_at, count_fields, count_bytes}
use Rattle.state_bytes.proofs.Fields.{Local, le_at-local, local-on, part-part, length-joined, length-table}
use Rattle.state_bytes.proofs.Rows.{rows_at-local}

pub part-local : (m : ℕ) → Local (λ b at. part b at m) m
part-local m b at n i h = part-part b at n i m h

module _ (b : List ℕ) (at n i : ℕ) where
  number-on : (m k : ℕ) → i + k + m ≤ n → le_at m (part b at n) (i + k) ≡ le_at m b (at + i + k)
  number-on m k h = local-on (le_at m) m (le_at-local m) b at n i k h

  part-on : (m k : ℕ) → i + k + m ≤ n → part (part b at n) (i + k) m ≡ part b (at + i + k) m
  part-on m k h = local-on (λ s j. part s j m) m (part-local m) b at n i k h

-- ---- an edit

pub edit_at-local : Local edit_at edit_size
unfolding edit_at
edit_at-local b at n i h =
    let number = number-on b at n i in
    rw (le_at-local 4 b at n i (omega arith), number 4 4 (omega arith), number 4 8 (omega arith), number 8 12 (omega arith))

abbrev pub edit_widths : List ℕ
edit_widths = 4 ∷ 4 ∷ 4 ∷ 8 ∷ []

pub edit-widths : (e : Edit) → map length (edit_fields e) ≡ edit_widths
edit-widths e = simp length-le_bytes

pub length-edit : (e : Edit) → length (stored_edit e) ≡ edit_size
unfolding stored_edit
length-edit e = length-joined (edit_fields e) edit_widths (edit-widths e)

-- ---- the edits of a payload

pub edits_at-local : Local edits_at (edit_size * records_max)
edits_at-local = rows_at-local edit_at edit_size records_max edit_at-local

pub length-edits : (es : List Edit) → length (chained (map stored_edit es)) ≡ edit_size * length es
length-edits es = length-table stored_edit edit_size es (record { offset = 0; length = 0; kind = Fill }) (λ i h. length-edit _)

-- ---- a payload

pub payload_at-local : Local payload_at payload_size
unfolding payload_at
payload_at-local b at n i h =
    let number = number-on b at n i 4 in
    rw (
      part-part b at n i name_max (omega arith),
      number name_max (omega arith),
      number (name_max + 4) (omega arith),
      number (name_max + 8) (omega arith),
      number (name_max + 12) (omega arith),
      number (name_max + 16) (omega arith),
      number (name_max + 20) (omega arith),
      part-on b at n i id_max dependency_place (omega arith),
      number edit_count_place (omega arith),
      local-on edits_at (edit_size * records_max) edits_at-local b at n i edits_place (omega arith),
    )

pub number-widths : (p : Payload) → map length (number_fields p) ≡ 4 ∷ 4 ∷ 4 ∷ 4 ∷ 4 ∷ 4 ∷ []
number-widths p = simp length-le_bytes

abbrev pub payload_widths : List ℕ
payload_widths = name_max ∷ 4 ∷ 4 ∷ 4 ∷ 4 ∷ 4 ∷ 4 ∷ id_max ∷ 4 ∷ edit_size * records_max ∷ []

pub payload-widths : (p : Payload) → WholePayload p → map length (payload_fields p) ≡ payload_widths
payload-widths p w = simp (w.name, length-le_bytes, w.dependency, length-edits p.edits, w.edits)

pub length-payload : (p : Payload) → WholePayload p → length (payload_bytes p) ≡ payload_size
unfolding payload_bytes
length-payload p w = length-joined (payload_fields p) payload_widths (payload-widths p w)

-- ---- start-up's numbers

pub config_at-local : Local config_at 32
unfolding config_at
config_at-local b at n i h =
    let number = number-on b at n i in
    rw (
      le_at-local 8 b at n i (omega arith),
      number 8 8 (omega arith),
      number 8 16 (omega arith),
      number 4 24 (omega arith),
      number 4 28 (omega arith),
    )

abbrev pub config_widths : List ℕ
config_widths = 8 ∷ 8 ∷ 8 ∷ 4 ∷ 4 ∷ []

pub config-widths : (c : Config) → map length (config_fields c) ≡ config_widths
config-widths c = simp length-le_bytes

pub length-config : (c : Config) → length (config_bytes c) ≡ count_place
unfolding config_bytes
length-config c = length-joined (config_fields c) config_widths (config-widths c)

-- ---- the counts and the version

abbrev pub count_widths : List ℕ
count_widths = 8 ∷ 8 ∷ 4 ∷ []

pub count-widths : (s : State) → map length (count_fields s) ≡ count_widths
count-widths s = simp length-le_bytes

pub length-counts : (s : State) → length (count_bytes s) ≡ 20
unfolding count_bytes
length-counts s = length-joined (count_fields s) count_widths (count-widths s)

-- ---- the job

pub held_at-local : Local held_at cpus_max
unfolding held_at
held_at-local b at n i h = rw (part-part b at n i cpus_max h)

pub job_at-local : Local job_at (16 + cpus_max)
unfolding job_at
job_at-local b at n i h =
    let number = number-on b at n i 4 in
    rw (
      le_at-local 4 b at n i (omega arith),
      number 4 (omega arith),
      local-on held_at cpus_max held_at-local b at n i 16 (omega arith),
      number 8 (omega arith),
      number 12 (omega arith),
    )

abbrev pub job_widths : List ℕ
job_widths = 4 ∷ 4 ∷ 4 ∷ 4 ∷ cpus_max ∷ []

pub job-widths : (j : Job) → length j.held ≡ cpus_max → map length (job_fields j) ≡ job_widths
job-widths j h = simp (length-le_bytes, length-map, h)

pub length-job : (j : Job) → length j.held ≡ cpus_max → length (job_bytes j) ≡ 16 + cpus_max
unfolding job_bytes
length-job j h = length-joined (job_fields j) job_widths (job-widths j h)
