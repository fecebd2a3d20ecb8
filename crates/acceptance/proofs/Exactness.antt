-- A payload is accepted exactly when it keeps every rule, and a refusal names a rule that is broken.
use Rattle.std.proofs.Common.{Ok, Err, Result, ℕ}
use Prim.Native.Nat.{ℕ, ◌≤◌}
use mathlib.Core.Path.{◌≡◌, refl, sym, ◌∙◌}
use mathlib.Core.Bool.{Bool, true, false, true≢false}
use mathlib.Core.List.{List}
use native.Mathlib.Omega.{arith}
use borrow.Author.Tests.{eqb-false, leb-false}
use lib.Dec.{leb}
use Rattle.records.specs.Refusal.{number_of, Verdict}
use Rattle.records.specs.declared.refusal.Reason.{Reason}
use Rattle.records.specs.declared.refusal.Place.{Place}
use Rattle.acceptance.specs.Broken.{Broken, Exact}
use Rattle.acceptance.specs.Keeps.{Keeps}
use Rattle.acceptance.specs.Stages.{Setting, payload_rules, build_rules}
use Rattle.acceptance.proofs.FunctionRules.{functions-told}
use Rattle.acceptance.proofs.PlacementRules.{passes-limit, placement-told}
use Rattle.acceptance.proofs.ReadingRules.{reading-told}
use Rattle.acceptance.proofs.RelocationRules.{relocations-told}
use Rattle.acceptance.proofs.Told.{Tells, told-as, ◌told-then◌}

-- no test both holds and fails, and no bound
never : {test : Bool} → test ≡ true → test ≡ false → ⊥
never holds fails = true≢false (sym holds ∙ fails)

no_more : {a b : ℕ} → a ≤ b → leb a b ≡ false → ⊥
no_more {a} {b} holds fails = omega (arith, leb-false a b fails)

-- nothing both has a value and is refused: no symbol, no old address, no value of a field
no_value : {A : Type 0} {v : Result A Reason} {x : A} {reason : Reason} → v ≡ Ok x → v ≡ Err reason → ⊥
no_value h g = let z : ◌≡◌ {A = ℕ} 0 1 = cc in absurd (omega arith)

module _ (t : Setting) (file : List ℕ) where
  -- no rule is both broken and kept
  not-both : (number : ℕ) (place : Place) → Broken t file number place → Keeps t file → ⊥
  not-both _ _ (Broken.file_size h) k = never k.reading.file_size h
  not-both _ _ (Broken.header h) k = never k.reading.header h
  not-both _ _ (Broken.section_table h) k = never k.reading.section_table h
  not-both _ _ (Broken.name_table h) k = never k.reading.name_table h
  not-both _ _ (Broken.section_0 h) k = never k.reading.section_0 h
  not-both _ _ (Broken.names i c h) k = never (k.reading.names i c) h
  not-both _ _ (Broken.types i c h) k = never (k.reading.types i c) h
  not-both _ _ (Broken.flags i c h) k = never (k.reading.flags i c) h
  not-both _ _ (Broken.kinds i c h) k = never h (k.reading.kinds i c)
  not-both _ _ (Broken.alignments i c h) k = never (k.reading.alignments i c) h
  not-both _ _ (Broken.contents i c h) k = never (k.reading.contents i c) h
  not-both _ _ (Broken.one_symbol_table h) k = eqb-false _ _ h k.reading.one_symbol_table
  not-both _ _ (Broken.symbol_table one h) k = never k.reading.symbol_table h
  not-both _ _ (Broken.one_funcs h) k = eqb-false _ _ h k.reading.one_funcs
  not-both _ _ (Broken.one_depends h) k = eqb-false _ _ h k.reading.one_depends
  not-both _ _ (Broken.one_build_id h) k = eqb-false _ _ h k.reading.one_build_id
  not-both _ _ (Broken.funcs_size one h) k = never k.reading.funcs_size h
  not-both _ _ (Broken.relocation_headers i below one kind h) k = never (k.reading.relocation_headers i below kind) h
  not-both _ _ (Broken.notes i below kind h) k = never (k.reading.notes i below kind) h
  not-both _ _ (Broken.placed i below before h) k = passes-limit file i below h k.placed
  not-both _ _ (Broken.relocation_types i e m h) k = k.relocations.relocation_types i e m h
  not-both _ _ (Broken.relocation_fields i e f m stores h) k = no_more (k.relocations.relocation_fields i e f m stores) h
  not-both _ _ (Broken.relocation_places i e f m stores h) k = never (k.relocations.relocation_places i e f m stores) h
  not-both _ _ (Broken.relocation_symbols i e f reason m stores h) k = no_value (k.relocations.relocation_symbols i e f m stores).1 h
  not-both _ _ (Broken.relocation_ranges i e s f reason m stores value h) k = no_value (k.relocations.relocation_ranges i e s f m stores value) h
  not-both _ _ (Broken.function_names r reason below h) k = no_value (k.functions.function_names r below).1 h
  not-both _ _ (Broken.function_forms r below h) k = never (k.functions.function_forms r below) h
  not-both _ _ (Broken.function_texts r address below same h) k = never (k.functions.function_texts r address below same) h
  not-both _ _ (Broken.function_places r address below same h) k = never (k.functions.function_places r address below same) h
  not-both _ _ (Broken.function_jumps r below new h) k = never (k.functions.function_jumps r below new) h
  not-both _ _ (Broken.function_fills r below none h) k = never (k.functions.function_fills r below none) h
  not-both _ _ (Broken.function_reach r address below new same h) k = never (k.functions.function_reach r address below new same) h
  not-both _ _ (Broken.pairs i j earlier below first h) k = never h (k.functions.pairs i j earlier below)

  all_told : Tells t file (Keeps t file) (payload_rules t file)
  unfolding build_rules
  all_told =
      told-as (λ all. record { reading = all.0; placed = all.1.0; relocations = all.1.1.0; functions = all.1.1.1 })
      (reading-told t file
      told-then λ reading. placement-told t file
      told-then λ placed. relocations-told t file reading
      told-then λ relocated. functions-told t file)

  pub exact : Exact t file (payload_rules t file)
  exact = record { accepted = all_told.kept; kept = λ k. by-verdict k (payload_rules t file) refl; refused = all_told.broken }
    where
      by-verdict : Keeps t file → (v : Verdict) → payload_rules t file ≡ v → payload_rules t file ≡ Ok tt
      by-verdict k (Ok _) e = e
      by-verdict k (Err r) e = absurd (not-both (number_of r.reason) r.place (all_told.broken r e) k)
