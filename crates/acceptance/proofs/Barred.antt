-- What number and place bar, beside the rule that is broken: document 01 gives section 0 one number, 22.
use Prim.Native.Nat.{ℕ}
use mathlib.Core.Path.{◌≡◌}
use mathlib.Core.List.{List}
use native.Mathlib.Omega.{arith}
use Rattle.records.specs.declared.refusal.Place.{Place}
use Rattle.records.specs.declared.refusal.Place.TheVariants.{Section, Entry, Record}
use Rattle.acceptance.specs.Broken.{Broken}
use Rattle.acceptance.specs.Rules.{Consults}
use Rattle.acceptance.specs.Stages.{Setting}

-- a section whose name, flags and contents count is not section 0
above-0 : {file : List ℕ} {i : ℕ} → Consults file i → Section i ≡ Section 0 → ⊥
above-0 {file} {i} c e = let z : i ≡ 0 = cc in omega (arith, c.above)

-- neither an entry nor a record is a section
no-entry : {i e : ℕ} → Entry i e ≡ Section 0 → ⊥
no-entry h = let z : ◌≡◌ {A = ℕ} 0 1 = cc in absurd (omega arith)

no_record : {r : ℕ} → Record r ≡ Section 0 → ⊥
no_record h = let z : ◌≡◌ {A = ℕ} 0 1 = cc in absurd (omega arith)

module _ (t : Setting) (file : List ℕ) where
  -- "section 0 is type 0 (else 22, also where its type is unknown)": no 95 at section 0
  pub section_0-not-95 : (number : ℕ) (place : Place) → Broken t file number place → number ≡ 95 → place ≡ Section 0 → ⊥
  section_0-not-95 _ _ (Broken.file_size h) n p = omega arith
  section_0-not-95 _ _ (Broken.header h) n p = omega arith
  section_0-not-95 _ _ (Broken.section_table h) n p = omega arith
  section_0-not-95 _ _ (Broken.name_table h) n p = omega arith
  section_0-not-95 _ _ (Broken.section_0 h) n p = omega arith
  section_0-not-95 _ _ (Broken.names i c h) n p = omega arith
  section_0-not-95 _ _ (Broken.types i c h) n p = above-0 c p
  section_0-not-95 _ _ (Broken.flags i c h) n p = above-0 c p
  section_0-not-95 _ _ (Broken.kinds i c h) n p = above-0 c p
  section_0-not-95 _ _ (Broken.alignments i c h) n p = omega arith
  section_0-not-95 _ _ (Broken.contents i c h) n p = omega arith
  section_0-not-95 _ _ (Broken.one_symbol_table h) n p = omega arith
  section_0-not-95 _ _ (Broken.symbol_table one h) n p = omega arith
  section_0-not-95 _ _ (Broken.one_funcs h) n p = omega arith
  section_0-not-95 _ _ (Broken.one_depends h) n p = omega arith
  section_0-not-95 _ _ (Broken.one_build_id h) n p = omega arith
  section_0-not-95 _ _ (Broken.funcs_size one h) n p = omega arith
  section_0-not-95 _ _ (Broken.relocation_headers i below one kind h) n p = omega arith
  section_0-not-95 _ _ (Broken.notes i below kind h) n p = omega arith
  section_0-not-95 _ _ (Broken.placed i below before h) n p = omega arith
  section_0-not-95 _ _ (Broken.relocation_types i e m h) n p = no-entry p
  section_0-not-95 _ _ (Broken.relocation_fields i e f m stores h) n p = omega arith
  section_0-not-95 _ _ (Broken.relocation_places i e f m stores h) n p = omega arith
  section_0-not-95 _ _ (Broken.relocation_symbols i e f reason m stores h) n p = no-entry p
  section_0-not-95 _ _ (Broken.relocation_ranges i e s f reason m stores value h) n p = no-entry p
  section_0-not-95 _ _ (Broken.function_names r reason below h) n p = no_record p
  section_0-not-95 _ _ (Broken.function_forms r below h) n p = omega arith
  section_0-not-95 _ _ (Broken.function_texts r address below same h) n p = omega arith
  section_0-not-95 _ _ (Broken.function_places r address below same h) n p = omega arith
  section_0-not-95 _ _ (Broken.function_jumps r below new h) n p = omega arith
  section_0-not-95 _ _ (Broken.function_fills r below none h) n p = omega arith
  section_0-not-95 _ _ (Broken.function_reach r address below new same h) n p = omega arith
  section_0-not-95 _ _ (Broken.pairs i j earlier below first h) n p = omega arith
