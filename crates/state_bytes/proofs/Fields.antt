-- Laws of `chained`: where a field stands, fields laid one behind the other, and tables of rows of one width.
use Prim.Native.Nat.{ℕ, zero, suc, ◌+◌, ◌*◌, ◌^◌, ◌≤◌, ◌<◌}
use mathlib.Core.Path.{◌≡◌, refl, sym, ap, ◌∙◌}
use mathlib.Core.List.{List, [], ◌∷◌, ◌++◌, append-nil, append_assoc, map, map-append}
use native.Mathlib.Nat.{add-zero, add_comm, add_assoc, zero-add, suc-add, mul-suc, mul-zero}
use native.Mathlib.Omega.{arith}
use lib.ListN.{length, get_or, take, drop, length-append}
use lib.Seq.{take-append_seam, drop-append-add, take-nil, drop-drop, take-take, take-suc, take-add, drop-cons, take_at}
use Rattle.words.specs.Number.{le_at, le_bytes}
use Rattle.words.specs.Splice.{splice, part}
use Rattle.words.proofs.Number.{le-le_bytes}
use Rattle.words.proofs.Splice.{splice-none, splice-append}
use Rattle.state_bytes.specs.Fields.{chained}

abbrev pub sum : List ℕ → ℕ
sum [] = 0
sum (n ∷ ns) = n + sum ns

-- ---- readers that look at so many bytes only

-- read within a part, and where the part stood
abbrev pub Local : {A : Type 0} → (List ℕ → ℕ → A) → ℕ → Type 0
Local row width = (b : List ℕ) (at n i : ℕ) → i + width ≤ n → row (part b at n) i ≡ row b (at + i)

drop-take : {A : Type 0} (i m : ℕ) (l : List A) → drop i (take (i + m) l) ≡ take m (drop i l)
drop-take zero m l = rw zero-add
drop-take (suc i) m [] = rw (suc-add i m, take-nil m)
drop-take (suc i) m (x ∷ l) = rw (suc-add i m) (drop-take i m l)

pub part-part : {A : Type 0} (s : List A) (at n i m : ℕ) → i + m ≤ n → part (part s at n) i m ≡ part s (at + i) m
unfolding part
part-part s at n i m h =
    rw (← drop-take i m (take n (drop at s)), take-take (i + m) n (drop at s) h, drop-take i m (drop at s), drop-drop i at s)

pub le_at-local : (m : ℕ) → Local (le_at m) m
unfolding le_at
le_at-local m b at n i h = rw (part-part b at n i m h)

-- read so many bytes further on
pub local-on :
    {A : Type 0} (row : List ℕ → ℕ → A) (width : ℕ) → Local row width → (b : List ℕ) (at n i k : ℕ) → i + k + width ≤ n →
    row (part b at n) (i + k) ≡ row b (at + i + k)
local-on row width local b at n i k h = local b at n (i + k) h ∙ ap (row b) (sym (add_assoc at i k))

-- ---- fields

pub joined-append : (fs gs : List (List ℕ)) → chained (fs ++ gs) ≡ chained fs ++ chained gs
unfolding chained
joined-append [] gs = refl
joined-append (f ∷ fs) gs = rw (joined-append fs gs) (sym (append_assoc f (chained fs) (chained gs)))

joined-one : (f : List ℕ) → chained (f ∷ []) ≡ f
unfolding chained
joined-one f = append-nil f

pub joined-more : (fs : List (List ℕ)) (f : List ℕ) → chained (fs ++ (f ∷ [])) ≡ chained fs ++ f
joined-more fs f = joined-append fs (f ∷ []) ∙ rw (joined-one f)

joined_length : (fs : List (List ℕ)) → length (chained fs) ≡ sum (map length fs)
unfolding chained
joined_length [] = refl
joined_length (f ∷ fs) = length-append f (chained fs) ∙ ap (λ (n : ℕ). length f + n) (joined_length fs)

take-map : {A B : Type 0} (f : A → B) (k : ℕ) (xs : List A) → take k (map f xs) ≡ map f (take k xs)
take-map f zero xs = refl
take-map f (suc k) [] = refl
take-map f (suc k) (x ∷ xs) = ap (λ (l : List _). f x ∷ l) (take-map f k xs)

field-there : (fs : List (List ℕ)) (k : ℕ) → part (chained fs) (sum (take k (map length fs))) (get_or (map length fs) k 0) ≡ get_or fs k []
unfolding chained part
field-there [] k = refl
field-there (f ∷ fs) zero = take-append_seam f (chained fs)
field-there (f ∷ fs) (suc k) = rw (drop-append-add f (chained fs) (sum (take k (map length fs)))) (field-there fs k)

-- of fields of these widths
module _ (fs : List (List ℕ)) (ws : List ℕ) (widths : map length fs ≡ ws) where
  pub length-joined : length (chained fs) ≡ sum ws
  length-joined = joined_length fs ∙ ap sum widths

  -- where field k stands
  pub field_at : (k : ℕ) → part (chained fs) (sum (take k ws)) (get_or ws k 0) ≡ get_or fs k []
  field_at k = rw (← widths) (field-there fs k)

  -- a number, read back
  pub number_at : (k n x : ℕ) → get_or ws k 0 ≡ n → get_or fs k [] ≡ le_bytes n x → x < 256 ^ n → le_at n (chained fs) (sum (take k ws)) ≡ x
  unfolding le_at
  number_at k n x wide here fits = rw (← wide, field_at k, here) (le-le_bytes n x fits)

  -- what a local reader reads of field k
  pub row_at :
      {A : Type 0} (row : List ℕ → ℕ → A) (k : ℕ) → Local row (get_or ws k 0) → row (chained fs) (sum (take k ws)) ≡ row (get_or fs k []) 0
  row_at row k local =
      rw (← field_at k, local (chained fs) (sum (take k ws)) (get_or ws k 0) 0 (omega arith), add-zero (sum (take k ws)))

-- s is s₀ with the first k fields laid from `at` on
pub record Laid (fs : List (List ℕ)) (ws s₀ : List ℕ) (at k : ℕ) (s : List ℕ) : Type 0 where
  pub widths : map length fs ≡ ws
  pub fits : at ≤ length s₀
  pub bytes : s ≡ splice s₀ at (chained (take k fs))

-- m more
pub laid-several :
    {fs : List (List ℕ)} {ws s₀ : List ℕ} {at k : ℕ} {s t : List ℕ} → Laid fs ws s₀ at k s → (m : ℕ) →
    t ≡ splice s (at + sum (take k ws)) (chained (take m (drop k fs))) → Laid fs ws s₀ at (k + m) t
laid-several {fs} {ws} {s₀} {at} {k} l m told =
    let place : sum (take k ws) ≡ length (chained (take k fs)) =
    rw (← l.widths, take-map length k fs) (sym (joined_length (take k fs))) in
    record {
      widths = l.widths;
      fits = l.fits;
      bytes =
          told
          ∙ rw (l.bytes, place, take-add k m fs, joined-append (take k fs) (take m (drop k fs)))
          (splice-append s₀ at (chained (take k fs)) l.fits (chained (take m (drop k fs))));
    }

-- one more
pub laid_more :
    {fs : List (List ℕ)} {ws s₀ : List ℕ} {at k : ℕ} {s t : List ℕ} → Laid fs ws s₀ at k s → k < length fs →
    t ≡ splice s (at + sum (take k ws)) (get_or fs k []) → Laid fs ws s₀ at (k + 1) t
laid_more {fs} {k = k} l more told =
    laid-several l 1 (told ∙ rw (drop-cons fs k [] more, joined-one (get_or fs k [])))

-- the first
pub laid-first :
    (fs : List (List ℕ)) {ws : List ℕ} (s₀ : List ℕ) (at : ℕ) {t : List ℕ} → map length fs ≡ ws → at ≤ length s₀ → 0 < length fs →
    t ≡ splice s₀ at (get_or fs 0 []) → Laid fs ws s₀ at 1 t
unfolding chained
laid-first fs s₀ at widths fits more told =
    let none : Laid fs _ s₀ at 0 s₀ = record { widths = widths; fits = fits; bytes = sym (splice-none s₀ at) } in
    laid_more none more (told ∙ rw (add-zero at))

-- ---- tables: rows of one width

module _ {A : Type 0} (bytes : A → List ℕ) where
  abbrev pub table : List A → List ℕ
  table xs = chained (map bytes xs)

  pub table_more : (xs : List A) (i : ℕ) (d : A) → i < length xs → table (take (suc i) xs) ≡ table (take i xs) ++ bytes (get_or xs i d)
  table_more xs i d h =
      rw (take-suc xs i d h, map-append bytes (take i xs) (get_or xs i d ∷ [])) (joined-more (map bytes (take i xs)) (bytes (get_or xs i d)))

  module _ (width : ℕ) where
    -- the first n elements of xs are written in so many bytes each
    abbrev pub Wide : List A → A → ℕ → Type 0
    Wide xs d n = (i : ℕ) → i < n → length (bytes (get_or xs i d)) ≡ width

    pub length-table : (xs : List A) (d : A) → Wide xs d (length xs) → length (table xs) ≡ width * length xs
    unfolding chained
    length-table [] d wide = sym (mul-zero width)
    length-table (x ∷ xs) d wide =
        length-append (bytes x) (table xs)
        ∙ rw (mul-suc width (length xs), wide 0 (omega arith), length-table xs d (λ i h. wide (suc i) (omega arith))) (add_comm width _)

    pub row-there :
        (xs : List A) (d : A) → Wide xs d (length xs) → (i : ℕ) → i < length xs →
        part (table xs) (width * i) width ≡ bytes (get_or xs i d)
    unfolding chained part
    row-there [] d wide i h = absurd (omega arith)
    row-there (x ∷ xs) d wide zero h = rw (mul-zero width) (take_at (bytes x) (table xs) width (wide 0 (omega arith)))
    row-there (x ∷ xs) d wide (suc i) h =
        let place : width * suc i ≡ length (bytes x) + width * i = omega (arith, mul-suc width i, wide 0 (omega arith)) in
        rw (place, drop-append-add (bytes x) (table xs) (width * i)) (row-there xs d (λ j l. wide (suc j) (omega arith)) i (omega arith))
