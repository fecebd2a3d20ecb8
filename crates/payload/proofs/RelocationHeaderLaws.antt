-- The headers of relocation sections that pass: what each of them has as its target.
use Rattle.records.specs.Refusal.{Verdict}
use Rattle.std.proofs.Common.{Ok}
use Prim.Native.Nat.{ℕ, ◌%◌, ◌<◌}
use mathlib.Core.Path.{◌≡◌}
use mathlib.Core.Bool.{true, cond, ◌&&◌}
use mathlib.Core.List.{List}
use native.Mathlib.Omega.{arith}
use borrow.Author.Tests.{ltb-true}
use lib.Dec.{ltb, eqb}
use Rattle.words.proofs.Tests.{both}
use Rattle.records.specs.Verdict.{must}
use Rattle.records.specs.declared.refusal.Place.TheVariants.{Section}
use Rattle.records.proofs.Checks.{must-pass, scan-passes}
use Rattle.elf.specs.Layout.{relocation_size}
use Rattle.kinds.specs.Kinds.{is_kind}
use Rattle.kinds.specs.declared.Kind.TheVariants.{Relocations}
use Rattle.object.specs.Sections.{section_in}
use Rattle.object.specs.declared.sections.SectionEntry.{SectionEntry}
use Rattle.payload.specs.RelocationHeaders.{is_target, relocation_header_ok, relocation_header_rules}

-- of a header that is right: "The target (sh_info) is .." a section of the file
target_right :
    (ss : List SectionEntry) (n table : ℕ) (s : SectionEntry) → relocation_header_ok ss n table s ≡ true →
    (s.header.sh_info < n) × (is_target (section_in ss s.header.sh_info) ≡ true)
unfolding relocation_header_ok
target_right ss n table s ok =
    let target = both _ (is_target (section_in ss s.header.sh_info)) ok in
    let linked = eqb s.header.sh_link table && eqb s.header.sh_entsize relocation_size in
    let inside = both (linked && eqb (s.header.sh_size % relocation_size) 0) (ltb s.header.sh_info n) target.0 in
    (ltb-true _ _ inside.1, target.1)

module _ (ss : List SectionEntry) (n table : ℕ) where
  abbrev one-header : ℕ → Verdict
  one-header i = cond (is_kind (section_in ss i).kind Relocations) (must (relocation_header_ok ss n table (section_in ss i)) 22 (Section i)) (Ok tt)

  pub target-passes :
      relocation_header_rules ss n table ≡ Ok tt → (i : ℕ) → i < n → is_kind (section_in ss i).kind Relocations ≡ true →
      ((section_in ss i).header.sh_info < n) × (is_target (section_in ss (section_in ss i).header.sh_info) ≡ true)
  unfolding relocation_header_rules
  target-passes passes i below kind =
      let here = scan-passes one-header 0 n passes i (omega arith) (omega arith) in
      target_right ss n table (section_in ss i) (must-pass _ 22 (Section i) (rw kind at here))
