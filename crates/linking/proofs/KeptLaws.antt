-- What the layout and the cells say of a payload's symbols.
use Rattle.std.proofs.Common.{Result, Ok, Err, ℕ}
use Prim.Native.Nat.{ℕ, ◌+◌, ◌*◌, ◌≤◌, ◌<◌}
use mathlib.Core.Path.{◌≡◌, refl, sym, ap, ◌∙◌}
use mathlib.Core.Bool.{Bool, true, false}
use mathlib.Core.List.{List}
use native.Mathlib.Numerals.{add-one}
use native.Mathlib.Omega.{arith}
use borrow.Author.Tests.{ltb-true, ltb-false, lt-ltb, le-ltb, le-leb, lt-leb, eqb-true, eqb-false, ne_eqb}
use lib.Dec.{ltb, eqb, leb-suc-suc}
use lib.ListN.{length, get_or, set, length-set}
use lib.Seq.{get_or-set_same, get_or-set_other}
use Rattle.words.specs.Address.{wrapping_sum}
use Rattle.words.proofs.Tests.{both}
use Rattle.records.specs.Limits.{sections_max}
use Rattle.records.specs.Refusal.{reason_for}
use Rattle.records.specs.declared.refusal.Reason.{Reason}
use Rattle.elf.specs.Layout.{symbol_size, symbol_of}
use Rattle.elf.specs.declared.Symbol.{Symbol}
use Rattle.placement.specs.Placement.{is_placed, offset_of, bound_for}
use Rattle.placement.specs.declared.Layout.{Layout}
use Rattle.placement.proofs.PlacementLaws.{offset-kept, bound-kept, bound-past}
use Rattle.linking.specs.Linking.{Linking}
use Rattle.linking.specs.Kept.{symbols_max, cell_value, with_found, Kept, Stands, Sought}
use Rattle.linking.specs.declared.kept.Cell.{Cell}
use Rattle.linking.specs.declared.kept.Cell.TheVariants.{Known}
use Rattle.linking.specs.Symbols.{home_of, stands_in, defined_value, value_by, symbol_value}

-- ---- where a symbol of a section stands

-- what the layout has for a symbol's section
abbrev bound_at : Layout → Symbol → ℕ
bound_at layout s = get_or layout.bounds s.st_shndx 0

abbrev offset_at : Layout → Symbol → ℕ
offset_at layout s = get_or layout.offsets s.st_shndx 0

module _ {l : Linking} {slot : ℕ} {layout : Layout} (stands : Stands l slot layout) (s : Symbol) where
  bound-in : s.st_shndx < l.count → bound_at layout s ≡ bound_for (home_of l s)
  bound-in h = rw (← stands.places) (bound-kept l.sections l.count _ h)

  bound-outside : l.count ≤ s.st_shndx → bound_at layout s ≡ 0
  bound-outside h = rw (← stands.places) (bound-past l.sections l.count _ h)

  offset-in : s.st_shndx < l.count → offset_at layout s ≡ offset_of l.sections s.st_shndx
  offset-in h = rw (← stands.places) (offset-kept l.sections l.count _ h)

  -- the bound alone decides
  stands-below : stands_in l s ≡ ltb s.st_value (bound_at layout s)
  unfolding stands_in
  stands-below = by_cases (ltb s.st_shndx l.count) refl (is_placed (home_of l s)) refl
    where
      by_cases :
          (inside : Bool) → ltb s.st_shndx l.count ≡ inside →
          (placed : Bool) → is_placed (home_of l s) ≡ placed →
          stands_in l s ≡ ltb s.st_value (bound_at layout s)
      by_cases false e placed p = simp (e, bound-outside (ltb-false _ _ e), le-ltb s.st_value 0 (omega arith))
      by_cases true e false p = simp (e, bound-in (ltb-true _ _ e), p, le-ltb s.st_value 0 (omega arith))
      by_cases true e true p = simp (e, bound-in (ltb-true _ _ e), p, add-one, leb-suc-suc)

  section-known : stands_in l s ≡ true → s.st_shndx < l.count
  unfolding stands_in
  section-known h = ltb-true _ _ (both _ _ (both _ _ h).0).0

  -- a value below the bound, one that is not, and an index past every table
  pub defined-inside :
      s.st_value < bound_at layout s →
      Ok (wrapping_sum (wrapping_sum slot (offset_at layout s)) s.st_value) ≡ defined_value l s
  unfolding defined_value
  defined-inside h =
      let inside : stands_in l s ≡ true = stands-below ∙ lt-ltb _ _ h in
      rw (inside, offset-in (section-known inside), ← stands.address)

  pub defined-outside : bound_at layout s ≤ s.st_value → Err (reason_for 22) ≡ defined_value l s
  unfolding defined_value
  defined-outside h = rw (stands-below, le-ltb _ _ h)

  pub defined-past : sections_max ≤ s.st_shndx → Err (reason_for 22) ≡ defined_value l s
  defined-past h = defined-outside (rw (bound-outside (omega (arith, stands.few))) (omega arith))

-- ---- a symbol other than 0, in its table and past it

module _ (l : Linking) {table : List ℕ} (same : l.symbols ≡ table) (number : ℕ) (some : number ≡ 0 → ⊥) where
  pub value-in-table :
      symbol_size * number + symbol_size ≤ length table → value_by l (symbol_of table (symbol_size * number)) ≡ symbol_value l number
  unfolding symbol_value
  value-in-table h =
      simp (ne_eqb number 0 some, ap length same, le-leb _ _ h) (ap (λ (t : List ℕ). value_by l (symbol_of t (symbol_size * number))) (sym same))

  pub value-past-table : length table < symbol_size * number + symbol_size → Err (reason_for 22) ≡ symbol_value l number
  unfolding symbol_value
  value-past-table h = simp (ne_eqb number 0 some, ap length same, lt-leb _ _ h)

-- ---- what a symbol's cell says of it

-- the cell of number i says what it is worth
abbrev pub HoldsAt : Linking → List Cell → ℕ → Type 0
HoldsAt l cells i = cell_value l.strings l.list (get_or cells i (Known 0)) ≡ symbol_value l i

module _ (l : Linking) (cells : List Cell) (i : ℕ) (cell : Cell) (new : cell_value l.strings l.list cell ≡ symbol_value l i) where
  -- a symbol holds where its cell was written, and where it held before and it was not
  pub holds-written :
      i < length cells → (j : ℕ) → ((j ≡ i → ⊥) → HoldsAt l cells j) → HoldsAt l (set cells i cell) j
  holds-written fits j old = by_cases (eqb j i) refl
    where
      by_cases : (b : Bool) → eqb j i ≡ b → HoldsAt l (set cells i cell) j
      by_cases true e = rw (eqb-true j i e, get_or-set_same cells i cell (Known 0) fits) new
      by_cases false e =
          let other = eqb-false j i e in
          rw (get_or-set_other cells i j cell (Known 0) (λ e. other e)) (old other)

  pub kept-written : i < symbols_max → Kept l cells → Kept l (set cells i cell)
  kept-written h k = record {
    all = simp length-set k.all;
    short = k.short;
    each = λ j g. holds-written (omega (arith, k.all)) j (λ other. k.each j g);
  }

-- ---- what a cell says when its symbol is used

module _ {l : Linking} {cells : List Cell} {strings list : List ℕ} (s : Sought l cells strings list) (i : ℕ) (known : i < symbols_max) where
  pub cell-told : {cell : Cell} → get_or cells i (Known 0) ≡ cell → cell_value strings list cell ≡ symbol_value l i
  cell-told e = rw (← e, ← s.names, ← s.listed) (s.kept.each i known)

  -- a name that is looked up for it gives its value, and the cells say so after it
  pub found-told : (found : Result ℕ Reason) → found ≡ symbol_value l i → Kept l (with_found cells i found)
  found-told (Ok a) e = kept-written l cells i (Known a) e known s.kept
  found-told (Err reason) e = s.kept
