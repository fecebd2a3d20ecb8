-- A payload prepared for its slot: document 01's rules of a payload in their order, and what an accepted one gives.
use Rattle.records.specs.Refusal.{Verdict}
use Rattle.std.specs.Prelude.{ℕ, Bool, true, ◌&&◌, ◌≡◌, List, leb, eqb, length, Result, Ok, Err}
use Rattle.records.specs.Limits.{placed_max}
use Rattle.records.specs.Verdict.{must, ◌then◌, decide, verdict_of}
use Rattle.records.specs.declared.refusal.Place.TheVariants.{Nowhere}
use Rattle.records.specs.declared.refusal.Refusal.{Refusal}
use Rattle.machine.specs.Host.{text_max}
use Rattle.machine.specs.Machine.{Machine}
use Rattle.payload.specs.Reading.{read_rules}
use Rattle.payload.specs.declared.read.Reading.{Reading}
use Rattle.placement.specs.Placement.{no_bytes}
use Rattle.functions.specs.Functions.{edits_of}
use Rattle.acceptance.specs.Broken.{Exact}
use Rattle.acceptance.specs.Consulted.{Alike, DifferInIgnored}
use Rattle.acceptance.specs.Stages.{
  Setting,
  reading_for,
  relocated_of,
  placed_length,
  records_start,
  record_count,
  patching_of,
  payload_rules,
  build_rules,
}
use Rattle.prepare.specs.declared.build.Built.{Built}
use Rattle.prepare.specs.declared.prepare.Prepared.{Prepared}

-- ---- what is built of a file that is read: nothing where a rule is broken

-- what build asks of the reading: it is that of the file, which passes
pub record Ready (m : Machine) (file : List ℕ) (g : Reading) : Type 0 where
  pub passes : read_rules m file ≡ Ok tt
  pub read : g ≡ reading_for file

-- the answer, and the slot's bytes after it
pub record BuiltSlot : Type 0 where
  pub answer : Result Built Refusal
  pub image : List ℕ

abbrev pub built_slot : Result Built Refusal → List ℕ → BuiltSlot
built_slot answer image = record { answer = answer; image = image }

abbrev pub refused_built : Refusal → BuiltSlot
refused_built r = built_slot (Err r) no_bytes

abbrev pub accepted_built : Setting → List ℕ → BuiltSlot
accepted_built t file =
    record {
      answer =
          Ok (
          record {
            placed = placed_length file;
            edits = edits_of (patching_of t file) (records_start file) (record_count file);
            edit_count = record_count file;
          }
          );
      image = (relocated_of t file).image;
    }

unfoldable pub built_of : Setting → List ℕ → BuiltSlot
built_of t file = decide refused_built (accepted_built t file) (build_rules t file)

-- ---- the rules of the call

-- the slot's bytes and the text have their sizes
abbrev pub sizes_ok : Setting → List ℕ → Bool
sizes_ok t image = eqb (length image) placed_max && leb t.host.text_length text_max

-- sizes first, then the payload's own rules
unfoldable pub prepare_rules : Setting → List ℕ → List ℕ → Verdict
prepare_rules t file image = must (sizes_ok t image) 22 Nowhere then payload_rules t file

-- ---- the answer, and the image buffer after it

pub record Outcome : Type 0 where
  pub answer : Result Prepared Refusal
  pub image : List ℕ

abbrev pub outcome : Result Prepared Refusal → List ℕ → Outcome
outcome answer image = record { answer = answer; image = image }

-- what is prepared of a file that keeps the rules
abbrev pub accepted_prepared : Setting → List ℕ → Prepared
accepted_prepared t file =
    record {
      id = (reading_for file).id;
      dependency = (reading_for file).dependency;
      placed = placed_length file;
      edits = edits_of (patching_of t file) (records_start file) (record_count file);
      edit_count = record_count file;
    }

-- a refusal leaves the image as it was
unfoldable pub prepare_of : Setting → List ℕ → List ℕ → Outcome
prepare_of t file image =
    decide (λ r. outcome (Err r) image) (outcome (Ok (accepted_prepared t file)) (relocated_of t file).image)
    (prepare_rules t file image)

-- what an outcome tells of the payload: where the sizes are right, it is accepted exactly when it keeps every rule, and a refusal names
-- a rule that is broken; and a file that differs in no byte that is consulted, or only in bytes of ignored contents, has the same outcome
pub record Faithful (t : Setting) (file image : List ℕ) (o : Outcome) : Type 0 where
  pub exact : sizes_ok t image ≡ true → Exact t file (verdict_of o.answer)
  pub unconsulted : (other : List ℕ) → Alike file other → prepare_of t other image ≡ o
  pub ignored : (other : List ℕ) → DifferInIgnored file other → prepare_of t other image ≡ o

-- all that `prepare` promises
pub record Prepares (t : Setting) (file image : List ℕ) (o : Outcome) : Type 0 where
  pub equal : o ≡ prepare_of t file image
  pub faithful : Faithful t file image o
