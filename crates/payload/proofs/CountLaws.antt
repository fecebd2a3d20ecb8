-- Sections counted and found by their kind, and what the counts say where they pass.
use Prim.Native.Nat.{ℕ, zero, suc, ◌+◌, ◌*◌, ◌%◌, ◌≤◌, ◌<◌}
use mathlib.Core.Path.{◌≡◌, refl}
use mathlib.Core.Bool.{Bool, true, false, cond, ◌&&◌}
use mathlib.Core.List.{List}
use mathlib.Core.Logic.{⊎_elim}
use native.Mathlib.Numerals.{add-one}
use native.Mathlib.Omega.{arith}
use borrow.Author.Tests.{eqb-true, ltb-true, leb-true}
use denote.Enum.Bare.{sameb}
use lib.Dec.{eqb}
use lib.ListN.{length, take, drop}
use lib.Seq.{drop-cons}
use Rattle.std.specs.List.{count_by, position, position_from}
use Rattle.std.specs.Option.{unwrap_or}
use Rattle.std.proofs.Common.{Option, Some, Ok}
use Rattle.std.proofs.lemmas.Iterator.Adapters.{position_from-zero}
use Rattle.std.proofs.lemmas.List.Sums.{sum_by-cons}
use Rattle.words.specs.Scan.{scan}
use Rattle.words.proofs.Scan.{Miss, searched}
use Rattle.words.proofs.Tests.{both}
use Rattle.records.specs.Limits.{sections_max, records_max, record_size}
use Rattle.records.proofs.Checks.{must-pass, then-pass}
use Rattle.elf.specs.Layout.{symbol_size}
use Rattle.elf.specs.declared.SectionHeader.{SectionHeader}
use Rattle.kinds.specs.Kinds.{has_type, is_kind}
use Rattle.kinds.specs.contracts.Kind.{the_type}
use Rattle.kinds.specs.declared.Kind.{Kind}
use Rattle.kinds.specs.declared.Kind.TheVariants.{Records, Depends, BuildId, Symbols}
use Rattle.kinds.proofs.Same.{same-kind}
use Rattle.object.specs.Sections.{section_in, no_entry}
use Rattle.object.specs.declared.sections.SectionEntry.{SectionEntry}
use Rattle.payload.specs.Counts.{one_counted, one_index, count_of, index_of, symbol_table_ok, records_size_ok, count_rules}

-- ---- the sections counted and sought in a list, by the derived `==` of their kind

abbrev pub of_kind : Kind → SectionEntry → Bool
of_kind kind s = sameb the_type s.kind kind

module _ (ss : List SectionEntry) (kind : Kind) where
  -- through the k sections from i on: how many there are, and the first of them
  count-from : (i k : ℕ) → i + k ≤ length ss → count_by (of_kind kind) (take k (drop i ss)) ≡ scan (one_counted ss kind) 0 i k
  unfolding scan
  count-from i zero h = refl
  count-from i (suc k) h =
      let more : i < length ss = omega arith in
      rw (drop-cons ss i no_entry more, sum_by-cons (λ s. cond (of_kind kind s) 1 0), same-kind (section_in ss i).kind kind, count-from (suc i) k (omega arith))
      (by_test (is_kind (section_in ss i).kind kind) _)
    where
      by_test : (b : Bool) (n : ℕ) → cond b 1 0 + n ≡ cond b (suc n) n
      by_test true n = omega arith
      by_test false n = omega arith

  index-from :
      (i k : ℕ) → i + k ≤ length ss → unwrap_or (position_from (of_kind kind) i (take k (drop i ss))) 0 ≡ scan (one_index ss kind) 0 i k
  unfolding scan
  index-from i zero h = refl
  index-from i (suc k) h =
      let more : i < length ss = omega arith in
      rw (drop-cons ss i no_entry more, add-one i, same-kind (section_in ss i).kind kind)
      (by_test (is_kind (section_in ss i).kind kind) _ _ (index-from (suc i) k (omega arith)))
    where
      by_test : (b : Bool) (later : Option ℕ) (n : ℕ) → unwrap_or later 0 ≡ n → unwrap_or (cond b (Some i) later) 0 ≡ cond b i n
      by_test true later n e = refl
      by_test false later n e = e

  pub counted : (n : ℕ) → n ≤ length ss → count_by (of_kind kind) (take n ss) ≡ count_of ss n kind
  unfolding count_of
  counted n inside = count-from 0 n (omega arith)

  pub indexed : (n : ℕ) → n ≤ length ss → unwrap_or (position (of_kind kind) (take n ss)) 0 ≡ index_of ss n kind
  unfolding index_of
  indexed n inside = rw (position_from-zero (of_kind kind)) (index-from 0 n (omega arith))

-- ---- where a kind is counted, it is found

module _ (ss : List SectionEntry) (n : ℕ) (kind : Kind) where
  abbrev has_kind : ℕ → Bool
  has_kind i = is_kind (section_in ss i).kind kind

  -- a kind that no section has is counted 0 times
  none-counted : (i k : ℕ) → Miss has_kind i k → scan (one_counted ss kind) 0 i k ≡ 0
  unfolding scan
  none-counted i zero miss = refl
  none-counted i (suc k) miss =
      rw (miss i (omega arith) (omega arith)) (none-counted (suc i) k λ j h g. miss j (omega arith) (omega arith))

  pub index-found : count_of ss n kind ≡ 1 → (index_of ss n kind < n) × (is_kind (section_in ss (index_of ss n kind)).kind kind ≡ true)
  unfolding count_of index_of
  index-found one =
      ⊎_elim
      (λ w. rw w.2 (omega arith, w.1.holds))
      (λ w. absurd (omega (arith, none-counted 0 n w.0)))
      (searched has_kind (λ j. j) 0 0 n)

  -- it is a section's, or 0
  pub index-below : n ≤ sections_max → index_of ss n kind < sections_max
  unfolding index_of
  index-below few = ⊎_elim (λ w. rw w.2 (omega arith)) (λ w. rw w.1 (omega arith)) (searched has_kind (λ j. j) 0 0 n)

-- ---- counts that pass

pub record CountsPass (ss : List SectionEntry) (n : ℕ) : Type 0 where
  pub symbols : count_of ss n Symbols ≡ 1
  pub symbol_table : symbol_table_ok ss n (section_in ss (index_of ss n Symbols)).header ≡ true
  pub records : count_of ss n Records ≡ 1
  pub depends : count_of ss n Depends ≡ 1
  pub build_id : count_of ss n BuildId ≡ 1
  pub records_size : records_size_ok (section_in ss (index_of ss n Records)).header ≡ true

pub counts-pass : (ss : List SectionEntry) (n : ℕ) → count_rules ss n ≡ Ok tt → CountsPass ss n
unfolding count_rules
counts-pass ss n h =
    let symbols = then-pass _ _ h in
    let symbol_table = then-pass _ _ symbols.1 in
    let records = then-pass _ _ symbol_table.1 in
    let depends = then-pass _ _ records.1 in
    let build_id = then-pass _ _ depends.1 in
    record {
      symbols = eqb-true _ _ (must-pass _ _ _ symbols.0);
      symbol_table = must-pass _ _ _ symbol_table.0;
      records = eqb-true _ _ (must-pass _ _ _ records.0);
      depends = eqb-true _ _ (must-pass _ _ _ depends.0);
      build_id = eqb-true _ _ (must-pass _ _ _ build_id.0);
      records_size = must-pass _ _ _ build_id.1;
    }

-- the symbol table's link is a section of the file, of type 3
pub symbols-linked :
    (ss : List SectionEntry) (n : ℕ) (h : SectionHeader) → symbol_table_ok ss n h ≡ true →
    (h.sh_link < n) × (has_type 3 (section_in ss h.sh_link).header ≡ true)
unfolding symbol_table_ok
symbols-linked ss n h ok =
    let typed = both _ (has_type 3 (section_in ss h.sh_link).header) ok in
    let inside = both (eqb h.sh_entsize symbol_size && eqb (h.sh_size % symbol_size) 0) _ typed.0 in
    (ltb-true _ _ inside.1, typed.1)

-- the number of function records is in its limits
pub records-sized :
    (h : SectionHeader) → records_size_ok h ≡ true → (record_size ≤ h.sh_size) × (h.sh_size ≤ record_size * records_max)
unfolding records_size_ok
records-sized h ok =
    let ends = both _ _ (both _ (eqb (h.sh_size % record_size) 0) ok).0 in
    (leb-true _ _ ends.0, leb-true _ _ ends.1)
