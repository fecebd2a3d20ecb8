-- Rows of one width, read within a part, written in a loop and read back.
use Prim.Native.Nat.{ℕ, zero, suc, ◌+◌, ◌*◌, ◌^◌, ◌≤◌, ◌<◌}
use mathlib.Core.Path.{◌≡◌, refl, sym, ap, ap₂, ◌∙◌}
use mathlib.Core.List.{List, [], ◌∷◌}
use native.Mathlib.Nat.{add-zero, zero-add, mul-suc, mul-le-mul_left}
use native.Mathlib.Numerals.{add-one}
use native.Mathlib.Omega.{arith}
use borrow.Author.Count.{below_more}
use lib.ListN.{length, get_or, take}
use lib.Seq.{take-length, take_all, length-take-le, get_or-take}
use Rattle.words.specs.Number.{le_at, le_bytes}
use Rattle.words.specs.Scan.{each, scan}
use Rattle.words.specs.Splice.{splice, part}
use Rattle.words.proofs.Number.{le-le_bytes, length-le_bytes}
use Rattle.words.proofs.Splice.{splice-none, splice-append, length-splice, get_d_default}
use Rattle.state_bytes.specs.Fields.{chained, rows_at}
use Rattle.state_bytes.proofs.Fields.{Local, table, Wide, table_more, length-table, row-there}

-- ---- values in a row

each-alike :
    {A : Type 0} (f g : ℕ → A) (i k : ℕ) → ((j : ℕ) → i ≤ j → j < i + k → f j ≡ g j) → each f i k ≡ each g i k
unfolding scan
each-alike f g i zero all = refl
each-alike f g i (suc k) all =
    ap₂ ◌∷◌ (all i (omega arith) (omega arith)) (each-alike f g (suc i) k (λ j h l. all j (omega arith) (omega arith)))

-- values that are a list's elements
each-element :
    {A : Type 0} (f : ℕ → A) (xs : List A) (i : ℕ) → ((j : ℕ) (d : A) → j < length xs → f (i + j) ≡ get_or xs j d) → each f i (length xs) ≡ xs
unfolding scan
each-element f [] i all = refl
each-element f (x ∷ xs) i all =
    let next : (j : ℕ) (d : _) → j < length xs → f (suc i + j) ≡ get_or xs j d = λ j d h.
    let e : suc i + j ≡ i + suc j = omega arith in
    rw e (all (suc j) d (omega arith)) in
    ap₂ ◌∷◌ (ap f (sym (add-zero i)) ∙ all 0 x (omega arith)) (each-element f xs (suc i) next)

pub rows_at-local :
    {A : Type 0} (row : List ℕ → ℕ → A) (width count : ℕ) → Local row width → Local (rows_at row width count) (width * count)
unfolding rows_at
rows_at-local row width count local b at n i h =
    each-alike
    (λ j. row (part b at n) (i + width * j))
    (λ j. row b (at + i + width * j))
    0
    count
    (λ j low high.
    let room : width * suc j ≤ width * count = mul-le-mul_left width (omega arith) in
    let place : at + i + width * j ≡ at + (i + width * j) = omega arith in
    rw place (local b at n (i + width * j) (omega (arith, mul-suc width j))))

-- ---- rows written

-- x is written as a row of this width, and read back
pub record Row {A : Type 0} (bytes : A → List ℕ) (row : List ℕ → ℕ → A) (width : ℕ) (x : A) : Type 0 where
  pub wide : length (bytes x) ≡ width
  pub back : row (bytes x) 0 ≡ x

pub number-row : (n x : ℕ) → x < 256 ^ n → Row (le_bytes n) (le_at n) n x
unfolding le_at part
number-row n x h =
    let short : length (le_bytes n x) ≤ n = omega (arith, length-le_bytes n x) in
    record { wide = length-le_bytes n x; back = rw (take_all n (le_bytes n x) short) (le-le_bytes n x h) }

module _ {A : Type 0} (bytes : A → List ℕ) (row : List ℕ → ℕ → A) (width : ℕ) (xs : List A) (d : A) where
  -- the rows read back
  pub rows_back :
      Local row width → ((i : ℕ) → i < length xs → Row bytes row width (get_or xs i d)) → (count : ℕ) → length xs ≡ count →
      rows_at row width count (table bytes xs) 0 ≡ xs
  unfolding rows_at
  rows_back local rows count all =
      rw (← all)
      (each-element
      (λ i. row (table bytes xs) (0 + width * i))
      xs
      0
      (λ i e h.
      let there : row (part (table bytes xs) (width * i) width) 0 ≡ row (table bytes xs) (width * i + 0) =
      local (table bytes xs) (width * i) width 0 (omega arith) in
      rw (zero-add i, zero-add (width * i))
      (ap (row (table bytes xs)) (sym (add-zero (width * i)))
      ∙ sym there
      ∙ ap (λ (l : List ℕ). row l 0) (row-there bytes width xs d (λ j l. (rows j l).wide) i h)
      ∙ (rows i h).back
      ∙ get_d_default xs i d e h)))

  -- a loop that writes the rows from `at` on: the first n are written
  module _ (s₀ : List ℕ) (at : ℕ) where
    pub record Table (n : ℕ) (s : List ℕ) : Type 0 where
      pub rows : (i : ℕ) → i < n → Row bytes row width (get_or xs i d)
      pub written : s ≡ splice s₀ at (table bytes (take n xs))
      pub whole : length s ≡ length s₀

    pub table-begin : Table 0 s₀
    unfolding chained
    table-begin = record { rows = λ i h. absurd (omega arith); written = sym (splice-none s₀ at); whole = refl }

    pub table-turn :
        {n : ℕ} {s t : List ℕ} → Table n s → n < length xs → at + width * (n + 1) ≤ length s₀ → Row bytes row width (get_or xs n d) →
        t ≡ splice s (at + width * n) (bytes (get_or xs n d)) → Table (n + 1) t
    table-turn {n} {s} k more room here told =
        let front : length (take n xs) ≡ n = length-take-le n xs (omega arith) in
        let wide : Wide bytes width (take n xs) d (length (take n xs)) = λ i h.
        let below : i < n = rw front at h in
        rw (get_or-take n xs i d below) (k.rows i below).wide in
        let size : width * n ≡ length (table bytes (take n xs)) =
        sym (length-table bytes width (take n xs) d wide ∙ ap (λ (m : ℕ). width * m) front) in
        let end : at + width * n + length (bytes (get_or xs n d)) ≤ length s =
        omega (arith, here.wide, k.whole, mul-suc width n, ap (λ (m : ℕ). width * m) (add-one n)) in
        record {
          rows = below_more (λ i. Row bytes row width (get_or xs i d)) n k.rows here;
          written = told
              ∙ rw (k.written, size, add-one n, table_more bytes xs n d more)
              (splice-append s₀ at (table bytes (take n xs)) (omega arith) (bytes (get_or xs n d)));
          whole = ap length told ∙ length-splice s (at + width * n) (bytes (get_or xs n d)) end ∙ k.whole;
        }

    -- all are written
    pub table-end : {n : ℕ} {s : List ℕ} → Table n s → n ≡ length xs → s ≡ splice s₀ at (table bytes xs)
    table-end k all = k.written ∙ rw (all, take-length xs)
