-- The outcome of a preparation: what its stages answered, and that their verdicts decide it.
use Rattle.records.specs.Refusal.{Verdict}
use Rattle.std.proofs.Common.{Result, Ok, Err, sym, ap, ◌∙◌}
use Prim.Native.Nat.{ℕ}
use mathlib.Core.Path.{◌≡◌, refl}
use mathlib.Core.Bool.{Bool}
use mathlib.Core.List.{List}
use Rattle.records.specs.Verdict.{must, ◌then◌, decide, verdict_of}
use Rattle.records.specs.declared.refusal.Place.TheVariants.{Nowhere}
use Rattle.records.specs.declared.refusal.Refusal.{Refusal}
use Rattle.records.proofs.Checks.{Told, then-pass, rules-told, answer-told, decided-ok, decided-err}
use Rattle.machine.specs.Machine.{Machine}
use Rattle.payload.specs.Reading.{read_rules, reading_of}
use Rattle.payload.specs.declared.read.Reading.{Reading}
use Rattle.functions.specs.Functions.{edits_of}
use Rattle.acceptance.specs.Stages.{Setting, machine_at, reading_for, relocated_of, placed_length, records_start, record_count, patching_of, build_rules, payload_rules}
use Rattle.prepare.specs.Prepare.{
  Ready,
  BuiltSlot,
  built_slot,
  accepted_built,
  built_of,
  sizes_ok,
  prepare_rules,
  Outcome,
  outcome,
  accepted_prepared,
  prepare_of,
}
use Rattle.prepare.specs.declared.build.Built.{Built}
use Rattle.prepare.proofs.BuildLaws.{built-told}

-- ---- what the stages answered

-- the reading: it is refused as the rules say, and what was read is ready to build from
module _ (m : Machine) (file : List ℕ) {g : Result Reading Refusal} (answer : g ≡ reading_of m file) where
  pub read-refuses : {r : Refusal} → g ≡ Err r → read_rules m file ≡ Err r
  unfolding reading_of
  read-refuses h = decided-err _ (read_rules m file) (sym answer ∙ h)

  pub is-ready : {x : Reading} → g ≡ Ok x → Ready m file x
  unfolding reading_of
  is-ready h = let told = decided-ok _ (read_rules m file) (sym answer ∙ h) in record { passes = told.0; read = told.1 }

-- what was built, b
module _ (t : Setting) (file : List ℕ) {b : BuiltSlot} (answer : b ≡ built_of t file) where
  pub build-told : {v : Verdict} → verdict_of b.answer ≡ v → build_rules t file ≡ v
  unfolding built_of
  build-told h = rules-told _ _ _ (built-told t file) _ _ answer h

  pub built-all : verdict_of b.answer ≡ Ok tt → b ≡ accepted_built t file
  unfolding built_of
  built-all h = answer-told _ _ _ (built-told t file) (build_rules t file) (Ok tt) answer h

-- ---- the outcome that a verdict decides

abbrev pub outcome_by : Setting → List ℕ → List ℕ → Verdict → Outcome
outcome_by t file image = decide (λ r. outcome (Err r) image) (outcome (Ok (accepted_prepared t file)) (relocated_of t file).image)

module _ (t : Setting) (file image : List ℕ) where
  -- an outcome holds the verdict that decides it
  pub outcome-told :
      Told (λ o. verdict_of o.answer) (λ r. outcome (Err r) image) (outcome (Ok (accepted_prepared t file)) (relocated_of t file).image)
  outcome-told = record { refusing = λ r. refl; accepting = refl }

  -- sizes, reading, building: the first that refuses, or that none does
  pub prepared-by :
      {sizes : Bool} {reading building : Verdict} → sizes_ok t image ≡ sizes → read_rules (machine_at t) file ≡ reading → build_rules t file ≡ building →
      prepare_of t file image ≡ outcome_by t file image (must sizes 22 Nowhere then reading then building)
  unfolding prepare_of prepare_rules
  prepared-by s r b = rw (s, r, b)

  -- where the rules pass, the reading and the building pass
  pub prepare-passes : prepare_rules t file image ≡ Ok tt → (read_rules (machine_at t) file ≡ Ok tt) × (build_rules t file ≡ Ok tt)
  unfolding prepare_rules
  prepare-passes h = then-pass _ _ (then-pass (must (sizes_ok t image) 22 Nowhere) (payload_rules t file) h).1

  -- the answer of what was read and built
  pub accepted :
      {g : Reading} {b : Built} {bytes slot : List ℕ} → g ≡ reading_for file → built_slot (Ok b) bytes ≡ accepted_built t file → slot ≡ bytes →
      ◌≡◌ {A = Outcome}
      (outcome (Ok (record { id = g.id; dependency = g.dependency; placed = b.placed; edits = b.edits; edit_count = b.edit_count })) slot)
      (outcome_by t file image (Ok tt))
  accepted {b = b} read built written =
      let answer = ap (λ (x : BuiltSlot). x.answer) built in
      let left = ap (λ (x : BuiltSlot). x.image) built in
      let made : b ≡ record {
        placed = placed_length file;
        edits = edits_of (patching_of t file) (records_start file) (record_count file);
        edit_count = record_count file;
      } = cc in
      rw (written, left, read, made)
