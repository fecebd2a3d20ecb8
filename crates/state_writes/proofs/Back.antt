-- Each part of the state, once its bytes are written, is read back.
use Prim.Native.Nat.{ℕ, ◌^◌, ◌<◌}
use mathlib.Core.Path.{◌≡◌, refl, ap}
use mathlib.Core.Bool.{Bool, true, false}
use mathlib.Core.List.{List, [], ◌∷◌, map}
use lib.ListN.{length, get_or, take}
use Rattle.words.specs.Number.{le_at, le_bytes}
use Rattle.records.specs.declared.payload.Edit.{Edit}
use Rattle.records.specs.declared.payload.EditKind.{EditKind}
use Rattle.records.specs.declared.payload.EditKind.TheVariants.{Jump, Fill}
use Rattle.records.specs.declared.payload.Payload.{Payload}
use Rattle.machine.specs.declared.processor.Processor.{Processor}
use Rattle.machine.specs.declared.processor.Processor.TheVariants.{X86_64}
use Rattle.memory.specs.Config.{cpus_max}
use Rattle.memory.specs.declared.config.Config.{Config}
use Rattle.state.specs.declared.state.Job.{Job}
use Rattle.state.specs.declared.state.State.{State}
use Rattle.state.proofs.Whole.{WholePayload}
use Rattle.state_bytes.specs.Fields.{chained}
use Rattle.state_bytes.specs.Stored.{kind_number, displacement_of, kind_from, edit_fields, stored_edit, edit_at, edits_at, payload_fields, payload_bytes, payload_at, config_fields, config_bytes, config_at, flag_byte, is_set, job_fields, job_bytes, held_at, job_at, count_fields, count_bytes}
use Rattle.state_bytes.proofs.Fields.{sum, field_at, number_at, row_at}
use Rattle.state_bytes.proofs.Readers.{edit_widths, edit-widths, edits_at-local, payload_widths, payload-widths, config_widths, config-widths, count_widths, count-widths, job_widths, job-widths}

-- ---- an edit

kind-back : (kind : EditKind) → kind_from (kind_number kind) (displacement_of kind) ≡ kind
kind-back (Jump d) = refl
kind-back Fill = refl

-- the numbers of an edit fit
pub record EditFits (e : Edit) : Type 0 where
  pub offset : e.offset < 256 ^ 4
  pub length : e.length < 256 ^ 4
  pub kind : kind_number e.kind < 256 ^ 4
  pub displacement : displacement_of e.kind < 256 ^ 8

pub edit-back : (e : Edit) → EditFits e → edit_at (stored_edit e) 0 ≡ e
unfolding edit_at stored_edit
edit-back e fits =
    let number = number_at (edit_fields e) edit_widths (edit-widths e) in
    rw (
      number 0 4 e.offset refl refl fits.offset,
      number 1 4 e.length refl refl fits.length,
      number 2 4 (kind_number e.kind) refl refl fits.kind,
      number 3 8 (displacement_of e.kind) refl refl fits.displacement,
      kind-back e.kind,
    )

-- ---- a payload

-- its arrays have their lengths, its numbers fit, and its edits are read back
pub record PayloadFits (p : Payload) : Type 0 where
  pub whole : WholePayload p
  pub name_length : p.name_length < 256 ^ 4
  pub slot : p.slot < 256 ^ 4
  pub status : p.status < 256 ^ 4
  pub result : p.result < 256 ^ 4
  pub id_length : p.id_length < 256 ^ 4
  pub dependency_length : p.dependency.length < 256 ^ 4
  pub edit_count : p.edit_count < 256 ^ 4
  pub edits_back : edits_at (chained (map stored_edit p.edits)) 0 ≡ p.edits

pub payload-back : (p : Payload) → PayloadFits p → payload_at (payload_bytes p) 0 ≡ p
unfolding payload_bytes payload_at
payload-back p fits =
    let fs = payload_fields p in
    let widths = payload-widths p fits.whole in
    let field = field_at fs payload_widths widths in
    let number = number_at fs payload_widths widths in
    rw (
      field 0,
      number 1 4 p.name_length refl refl fits.name_length,
      number 2 4 p.slot refl refl fits.slot,
      number 3 4 p.status refl refl fits.status,
      number 4 4 p.result refl refl fits.result,
      number 5 4 p.id_length refl refl fits.id_length,
      number 6 4 p.dependency.length refl refl fits.dependency_length,
      field 7,
      number 8 4 p.edit_count refl refl fits.edit_count,
      row_at fs payload_widths widths edits_at 9 edits_at-local,
      fits.edits_back,
    )

-- ---- start-up's numbers

pub record ConfigFits (c : Config) : Type 0 where
  pub text : c.text < 256 ^ 8
  pub text_length : c.text_length < 256 ^ 8
  pub arena : c.arena < 256 ^ 8
  pub id_length : c.id_length < 256 ^ 4
  pub cpus : c.cpus < 256 ^ 4

-- there is one processor
one-processor : (processor : Processor) → X86_64 ≡ processor
one-processor X86_64 = refl

pub config-back : (c : Config) → ConfigFits c → config_at (config_bytes c) 0 ≡ c
unfolding config_at config_bytes
config-back c fits =
    let number = number_at (config_fields c) config_widths (config-widths c) in
    rw (
      number 0 8 c.text refl refl fits.text,
      number 1 8 c.text_length refl refl fits.text_length,
      number 2 8 c.arena refl refl fits.arena,
      number 3 4 c.id_length refl refl fits.id_length,
      number 4 4 c.cpus refl refl fits.cpus,
      one-processor c.processor,
    )

-- ---- the counts and the version

-- a number of them, by its field
pub count_at :
    (s : State) (k n x : ℕ) → get_or count_widths k 0 ≡ n → get_or (count_fields s) k [] ≡ le_bytes n x → x < 256 ^ n →
    le_at n (count_bytes s) (sum (take k count_widths)) ≡ x
unfolding count_bytes
count_at s = number_at (count_fields s) count_widths (count-widths s)

-- ---- the job

-- a flag is read back
flags-back : (held : List Bool) → map is_set (map flag_byte held) ≡ held
flags-back [] = refl
flags-back (true ∷ held) = ap (λ (l : List Bool). true ∷ l) (flags-back held)
flags-back (false ∷ held) = ap (λ (l : List Bool). false ∷ l) (flags-back held)

pub record JobFits (j : Job) : Type 0 where
  pub action : j.action < 256 ^ 4
  pub slot : j.slot < 256 ^ 4
  pub time : j.time < 256 ^ 4
  pub steps : j.steps < 256 ^ 4
  pub held : length j.held ≡ cpus_max

pub job-back : (j : Job) → JobFits j → job_at (job_bytes j) 0 ≡ j
unfolding job_at job_bytes held_at
job-back j fits =
    let widths = job-widths j fits.held in
    let number = number_at (job_fields j) job_widths widths in
    rw (
      number 0 4 j.action refl refl fits.action,
      number 1 4 j.slot refl refl fits.slot,
      number 2 4 j.time refl refl fits.time,
      number 3 4 j.steps refl refl fits.steps,
      field_at (job_fields j) job_widths widths 4,
      flags-back j.held,
    )
