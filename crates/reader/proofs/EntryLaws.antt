-- What the cursor finds: the entry that it stands at, and that at the end no whole entry is left.
use Rattle.std.proofs.Common.{Some, None}
use Prim.Native.Nat.{ℕ, ◌+◌, ◌*◌, ◌≤◌, ◌<◌}
use mathlib.Core.Path.{◌≡◌, refl, sym, ap}
use mathlib.Core.Bool.{Bool, true, false, cond}
use mathlib.Core.List.{List}
use native.Mathlib.Omega.{arith}
use borrow.Author.Tests.{ltb-true, ltb-false}
use lib.Dec.{ltb}
use Rattle.elf.specs.Layout.{relocation_size, relocation_of}
use Rattle.elf.specs.declared.Relocation.{Relocation}
use Rattle.reader.specs.Entries.{relocation_count, next_of, cursor_at, Next}
use Rattle.reader.specs.declared.cursor.Cursor.{Cursor}

module _ (entries : List ℕ) (c : Cursor) where
  abbrev at-cursor : Next
  at-cursor = Some (relocation_of entries (relocation_size * c.entry), cursor_at (c.entry + 1))

  pub next-entry :
      (r : Relocation) (next : Cursor) → next_of entries c ≡ Some (r, next) →
      (c.entry < relocation_count entries) × (r ≡ relocation_of entries (relocation_size * c.entry)) × (next.entry ≡ c.entry + 1)
  unfolding next_of
  next-entry r next e = by_cases (ltb c.entry (relocation_count entries)) refl e
    where
      by_cases :
          (b : Bool) → ltb c.entry (relocation_count entries) ≡ b → cond b at-cursor None ≡ Some (r, next) →
          (c.entry < relocation_count entries) × (r ≡ relocation_of entries (relocation_size * c.entry)) × (next.entry ≡ c.entry + 1)
      by_cases true h e =
          let both : ◌≡◌ {A = Relocation × Cursor} (relocation_of entries (relocation_size * c.entry), cursor_at (c.entry + 1)) (r, next) = cc in (
            ltb-true _ _ h,
            sym (ap (λ (p : Relocation × Cursor). p.0) both),
            sym (ap (λ (p : Relocation × Cursor). p.1.entry) both),
          )
      by_cases false h e = let z : ◌≡◌ {A = ℕ} 0 1 = cc in absurd (omega arith)

  pub next-end : next_of entries c ≡ None → relocation_count entries ≤ c.entry
  unfolding next_of
  next-end e = by_cases (ltb c.entry (relocation_count entries)) refl e
    where
      by_cases :
          (b : Bool) → ltb c.entry (relocation_count entries) ≡ b → cond b at-cursor None ≡ None → relocation_count entries ≤ c.entry
      by_cases true h e = let z : ◌≡◌ {A = ℕ} 0 1 = cc in absurd (omega arith)
      by_cases false h e = ltb-false _ _ h
