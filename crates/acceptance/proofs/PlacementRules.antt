-- The rule of placement: kept where it passes, broken where it refuses, and never both.
use Prim.Native.Nat.{ℕ, zero, suc, ◌≤◌, ◌<◌}
use mathlib.Core.Path.{◌≡◌}
use mathlib.Core.Bool.{true, false}
use mathlib.Core.List.{List}
use native.Mathlib.Omega.{arith}
use borrow.Author.Tests.{leb-true, leb-false}
use lib.Dec.{leb}
use Rattle.records.specs.Limits.{placed_max}
use Rattle.object.specs.Sections.{section_count, sections}
use Rattle.object.specs.declared.sections.SectionEntry.{SectionEntry}
use Rattle.placement.specs.Placement.{end_before, placement_rules}
use Rattle.placement.proofs.PlacementLaws.{end-rises}
use Rattle.acceptance.specs.Broken.Broken.{placed}
use Rattle.acceptance.specs.Stages.{Setting, placed_length}
use Rattle.acceptance.proofs.Told.{Tells, told-as, told-must, told-scan}

-- where each of the first n sections ends inside the slot, what they take fits it
ends-fit :
    (ss : List SectionEntry) (n : ℕ) → ((i : ℕ) → i < n → leb (end_before ss (suc i)) placed_max ≡ true) → end_before ss n ≤ placed_max
unfolding end_before
ends-fit ss zero each = omega arith
ends-fit ss (suc n) each = leb-true _ _ (each n (omega arith))

pub placement-told : (t : Setting) (file : List ℕ) → Tells t file (placed_length file ≤ placed_max) (placement_rules (sections file) (section_count file))
unfolding placement_rules
placement-told t file =
    told-as (ends-fit (sections file) (section_count file))
    (told-scan _ _ λ i below before. told-must _ 12 _ (placed i below (ends-fit (sections file) i before)))

-- where one section passes 8,192, all of them together do
pub passes-limit :
    (file : List ℕ) (i : ℕ) → i < section_count file → leb (end_before (sections file) (suc i)) placed_max ≡ false →
    placed_length file ≤ placed_max → ⊥
passes-limit file i below over inside =
    omega (arith, leb-false (end_before (sections file) (suc i)) placed_max over, end-rises (sections file) (suc i) (section_count file) below)
