-- What a header that passes tells.
use Rattle.std.proofs.Common.{Ok}
use Prim.Native.Nat.{ℕ, ◌≤◌}
use mathlib.Core.Path.{◌≡◌, refl}
use mathlib.Core.Bool.{Bool, true, false, and-false, false≢true}
use mathlib.Core.List.{List}
use borrow.Author.Tests.{leb-true}
use lib.Dec.{leb}
use Rattle.words.proofs.Tests.{both}
use Rattle.records.specs.Limits.{file_min, file_max, sections_max}
use Rattle.records.specs.declared.refusal.Place.TheVariants.{Nowhere}
use Rattle.machine.specs.Machine.{Machine}
use Rattle.elf.specs.declared.FileHeader.{FileHeader}
use Rattle.header.specs.Header.{size_ok, fields_ok, header_rules, Headed}
use Rattle.records.proofs.Checks.{must-pass}

size-told : (n : ℕ) → size_ok n ≡ true → (file_min ≤ n) × (n ≤ file_max)
unfolding size_ok
size-told n e =
    let ends = both _ _ e in
    (leb-true _ _ ends.0, leb-true _ _ ends.1)

fields_told : (m : Machine) (h : FileHeader) → fields_ok m h ≡ true → h.e_shnum ≤ sections_max
unfolding fields_ok
fields_told m h e = by-test (leb h.e_shnum sections_max) refl
  where
    by-test : (t : Bool) → leb h.e_shnum sections_max ≡ t → h.e_shnum ≤ sections_max
    by-test true f = leb-true _ _ f
    by-test false f = absurd (false≢true (simp (f, and-false) at e))

pub headed : (m : Machine) (file : List ℕ) → header_rules m file ≡ Ok tt → Headed file
unfolding header_rules
headed m file e =
    let all = both _ _ (must-pass _ 8 Nowhere e) in
    let front = both _ _ all.0 in
    let size = size-told _ front.0 in
    record { whole = size.0; short = size.1; few = fields_told m _ front.1; inside = leb-true _ _ all.1 }
