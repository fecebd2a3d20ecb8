-- Laws of `scan`. A loop over i up to n, with the invariant that the scan from i on is the scan from the first number on: where it
-- begins, a turn, and where it ends. What a search finds, and what a list of values holds.
use Rattle.std.proofs.Common.{◌≡◌, ℕ, zero, suc, ◌+◌, ◌-◌, ◌<◌, ◌≤◌, Bool, true, false, cond, ◌⊎◌, List, [], ◌∷◌, ◌++◌, length, get_or, set, replicate, sym, refl, ap, ◌∙◌, subst, inl, inr, ⊎_elim, append-nil, add-zero, eq-or-lt_of_le, zero-add, add-one, arith, length-append}
use lib.ListN.{length-replicate, get_or-append}
use lib.Seq.{set_at, append_snoc}
use Rattle.words.specs.Scan.{scan, each, filled}

module _ {A : Type 0} (f : ℕ → A → A) (last : A) where
  pub begin : (n : ℕ) → scan f last 0 n ≡ scan f last 0 (n - 0)
  begin n =
      let all : n - 0 ≡ n = omega arith in
      rw all

  pub turn : (i n : ℕ) → i < n → scan f last i (n - i) ≡ f i (scan f last (i + 1) (n - (i + 1)))
  unfolding scan
  turn i n h =
      let left : n - i ≡ suc (n - (i + 1)) = omega arith in
      rw (left, add-one i)

  pub end : (i n : ℕ) → n ≤ i → scan f last i (n - i) ≡ last
  unfolding scan
  end i n h =
      let none : n - i ≡ 0 = omega arith in
      rw none

-- what holds at i and from i + 1 on holds from i on
pub from-here : {P : ℕ → Type 0} (i n : ℕ) → P i → ((j : ℕ) → suc i ≤ j → j < n → P j) → (j : ℕ) → i ≤ j → j < n → P j
from-here {P} i n here later j h g = ⊎_elim (λ e. subst P e here) (λ l. later j l g) (eq-or-lt_of_le h)

-- a search among the k numbers from i on: it gives `hit` of the first whose test holds, or `none`
module _ (test : ℕ → Bool) where
  pub record Hit (i k e : ℕ) : Type 0 where
    pub low : i ≤ e
    pub high : e < i + k
    pub holds : test e ≡ true
    pub before : (j : ℕ) → i ≤ j → j < e → test j ≡ false

  abbrev pub Miss : ℕ → ℕ → Type 0
  Miss i k = (j : ℕ) → i ≤ j → j < i + k → test j ≡ false

  module _ {A : Type 0} (hit : ℕ → A) (none : A) where
    abbrev pub search-from : ℕ → ℕ → A
    search-from i k = scan (λ j rest. cond (test j) (hit j) rest) none i k

    abbrev pub Searched : ℕ → ℕ → Type 0
    Searched i k = ((e : ℕ) × Hit i k e × (search-from i k ≡ hit e)) ⊎ (Miss i k × (search-from i k ≡ none))

    here-or-later : (i k : ℕ) (t : Bool) → test i ≡ t → Searched (suc i) k → Searched i (suc k)
    unfolding scan
    here-or-later i k true e later =
        inl (i, record { low = omega arith; high = omega arith; holds = e; before = λ j h g. absurd (omega arith) }, rw e)
    here-or-later i k false e later =
        ⊎_elim
        (λ w. inl (w.0, record { low = omega arith; high = omega arith; holds = w.1.holds; before = from-here i _ e w.1.before }, rw e w.2))
        (λ w. inr (from-here i _ e (λ j h g. w.0 j h (omega arith)), rw e w.1))
        later

    pub searched : (i k : ℕ) → Searched i k
    unfolding scan
    searched i zero = inr (λ j h g. absurd (omega arith), refl)
    searched i (suc k) = here-or-later i k (test i) refl (searched (suc i) k)

-- a list of values: its length, and its elements
module _ {A : Type 0} (f : ℕ → A) where
  pub length-each : (i k : ℕ) → length (each f i k) ≡ k
  unfolding scan
  length-each i zero = refl
  length-each i (suc k) = ap suc (length-each (suc i) k)

  pub get_or-each : (i k j : ℕ) (d : A) → j < k → get_or (each f i k) j d ≡ f (i + j)
  unfolding scan
  get_or-each i zero j d h = absurd (omega arith)
  get_or-each i (suc k) zero d h = rw (add-zero i)
  get_or-each i (suc k) (suc j) d h =
      let e : i + suc j ≡ suc i + j = omega arith in
      rw e (get_or-each (suc i) k j d (omega arith))

  each_more : (i k : ℕ) → each f i (suc k) ≡ each f i k ++ (f (i + k) ∷ [])
  unfolding scan
  each_more i zero = rw (add-zero i)
  each_more i (suc k) =
      let e : i + suc k ≡ suc i + k = omega arith in
      rw e (ap (λ (l : List A). f i ∷ l) (each_more (suc i) k))

  -- a loop that fills an array of m by its index: where it begins, and a turn
  pub fill-begin : (z : A) (m : ℕ) → replicate m z ≡ filled f z m 0
  unfolding filled scan
  fill-begin z m =
      let all : m - 0 ≡ m = omega arith in
      rw all

  pub fill-turn : (z : A) (m i : ℕ) → i < m → set (filled f z m i) i (f i) ≡ filled f z m (i + 1)
  unfolding filled
  fill-turn z m i h =
      let left : m - i ≡ suc (m - (i + 1)) = omega arith in
      rw (left, add-one i, each_more 0 i, zero-add i)
      (set_at (each f 0 i) z (replicate (m - suc i) z) (f i) i (length-each 0 i) ∙ sym (append_snoc (each f 0 i) (f i) _))

-- an array that is filled: its length, and its elements
pub length-filled : {A : Type 0} (f : ℕ → A) (z : A) (m n : ℕ) → n ≤ m → length (filled f z m n) ≡ m
unfolding filled
length-filled f z m n h = simp (length-append, length-each, length-replicate) (omega arith)

pub get_or-filled : {A : Type 0} (f : ℕ → A) (z : A) (m n i : ℕ) (d : A) → i < n → get_or (filled f z m n) i d ≡ f i
unfolding filled
get_or-filled f z m n i d h =
    let short : i < length (each f 0 n) = omega (arith, length-each f 0 n) in
    get_or-append (each f 0 n) (replicate (m - n) z) d i short ∙ get_or-each f 0 n i d h ∙ rw (zero-add i)

-- an array that is filled to its end
pub filled-whole : {A : Type 0} (f : ℕ → A) (z : A) (m : ℕ) → filled f z m m ≡ each f 0 m
unfolding filled
filled-whole f z m =
    let none : m - m ≡ 0 = omega arith in
    rw none (append-nil (each f 0 m))
