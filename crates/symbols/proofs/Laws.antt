-- Laws of the symbol list: what reading an entry says, a turn and the end of the two walks over the entries; and of a valid list
-- `lookup-stays`: stopping at the first name that is not smaller finds what going on would find, and `lookup-listed`: a name is found
-- exactly where an entry has it, with that entry's address.
use Rattle.std.proofs.Common.{Some, None, Option, ℕ}
use Prim.Native.Nat.{ℕ, zero, suc, ◌+◌, ◌-◌, ◌≤◌, ◌<◌}
use mathlib.Core.Path.{◌≡◌, refl, sym, ap, ◌∙◌}
use mathlib.Core.Bool.{Bool, true, false, cond, ◌&&◌, and-false, and-eq-true_iff, false≢true}
use mathlib.Core.Logic.{◌↔◌}
use mathlib.Core.List.{List, []}
use native.Mathlib.Nat.{add-sub_cancel_left}
use native.Mathlib.Omega.{arith}
use borrow.Author.Tests.{le-leb, lt-leb, leb-true}
use lib.Dec.{leb, eqb}
use lib.ListN.{length, take, drop}
use Rattle.words.specs.Splice.{part}
use Rattle.words.specs.Order.{equal, less}
use Rattle.words.proofs.Order.{equal-same, equal-true, less-irreflexive, less-transitive}
use Rattle.symbols.specs.declared.Search.{Search}
use Rattle.symbols.specs.SymbolList.{
  address_at,
  name_at,
  name_length_at,
  next_at,
  whole_at,
  entry_at,
  entry_if,
  entries_from,
  found_if,
  lookup_from,
  compared_from,
  find_from,
  list_count,
  valid,
  lookup,
  find_of,
  first_named_from,
  first_named,
  entry_start,
  Listed,
}

-- the first and the last of four tests
ends : (a b c d : Bool) → (a && b && c && d) ≡ true → (a ≡ true) × (d ≡ true)
ends true true true d h = (refl, h)
ends true true false d h = (refl, absurd (false≢true h))
ends true false c d h = (refl, absurd (false≢true h))
ends false b c d h = (h, absurd (false≢true h))

-- ---- an entry read

module _ (s : List ℕ) (at : ℕ) where
  pub whole-holds : next_at s at ≤ length s → whole_at s at ≡ true
  unfolding whole_at
  whole-holds h =
      let head : at + 9 ≤ length s = omega arith in
      rw (le-leb _ _ head, le-leb _ _ h)

  pub whole-fails : length s < next_at s at → whole_at s at ≡ false
  unfolding whole_at
  whole-fails h = rw (lt-leb _ _ h, and-false)

  pub head-fails : length s < at + 9 → whole_at s at ≡ false
  unfolding whole_at
  head-fails h = rw (lt-leb _ _ h)

  whole-bounds : whole_at s at ≡ true → next_at s at ≤ length s
  unfolding whole_at
  whole-bounds h = leb-true _ _ ((and-eq-true_iff (leb (at + 9) (length s)) (leb (next_at s at) (length s))).0 h).1

  entry_whole : entry_at s at ≡ true → whole_at s at ≡ true
  unfolding entry_at
  entry_whole h = (ends (whole_at s at) _ _ _ h).0

  name-read : (n : ℕ) → name_length_at s at ≡ n → take (at + 9 + n - (at + 9)) (drop (at + 9) s) ≡ name_at s at
  unfolding name_at part
  name-read n e = rw (add-sub_cancel_left (at + 9) n, e)

-- the answer that the test does not hold
pub read-broken : (t : Bool) (s : List ℕ) (at : ℕ) {r : Option ℕ} → r ≡ entry_if t s at → r ≡ None → t ≡ false
unfolding entry_if
read-broken true s at e h = cc
read-broken false s at e h = refl

-- the answer that it holds, with a name of n bytes
pub record Read (t : Bool) (s : List ℕ) (at n : ℕ) : Type 0 where
  pub holds : t ≡ true
  pub long : name_length_at s at ≡ n
  pub inside : at + 9 + n ≤ length s
  pub name : take (at + 9 + n - (at + 9)) (drop (at + 9) s) ≡ name_at s at

module _ (s : List ℕ) (at : ℕ) {r : Option ℕ} {n : ℕ} where
  told : (t : Bool) → r ≡ entry_if t s at → r ≡ Some n → (t ≡ true) × (name_length_at s at ≡ n)
  unfolding entry_if
  told true e h = (refl, cc)
  told false e h = (cc, cc)

  pub read_whole : r ≡ entry_if (whole_at s at) s at → r ≡ Some n → Read (whole_at s at) s at n
  read_whole e h =
      let a = told (whole_at s at) e h in
      record { holds = a.0; long = a.1; inside = omega (arith, whole-bounds s at a.0); name = name-read s at n a.1 }

  pub read-entry : r ≡ entry_if (entry_at s at) s at → r ≡ Some n → Read (entry_at s at) s at n
  read-entry e h =
      let a = told (entry_at s at) e h in
      record {
        holds = a.0;
        long = a.1;
        inside = omega (arith, whole-bounds s at (entry_whole s at a.0));
        name = name-read s at n a.1;
      }

-- ---- a turn and the end of the walks, at entry i of n

module _ (s : List ℕ) (at i n : ℕ) where
  pub entries-turn :
      (last : List ℕ) → i < n →
      entries_from s (n - i) at last
      ≡ (entry_at s at && less last (name_at s at) && entries_from s (n - (i + 1)) (next_at s at) (name_at s at))
  unfolding entries_from
  entries-turn last h =
      let left : n - i ≡ suc (n - (i + 1)) = omega arith in
      rw left

  pub entries-end : (last : List ℕ) → n ≤ i → entries_from s (n - i) at last ≡ eqb at (length s)
  unfolding entries_from
  entries-end last h =
      let none : n - i ≡ 0 = omega arith in
      rw none

-- what a search answers that has compared i entries and is at the entry that begins at at, of n in all
abbrev pub answer : Option ℕ → ℕ → Search
answer f k = record { found = f; compared = k }

abbrev pub after : List ℕ → List ℕ → ℕ → ℕ → ℕ → Search
after s name n i at = answer (lookup_from s name (n - i) at) (i + compared_from s name (n - i) at)

module _ (s name : List ℕ) (n : ℕ) where
  pub search-begin : find_from s name n 7 ≡ after s name n 0 7
  unfolding find_from
  search-begin =
      let all : n - 0 ≡ n = omega arith in
      rw all (ap (answer _) (omega arith))

  pub search-end : (i at : ℕ) → n ≤ i → after s name n i at ≡ answer None i
  unfolding lookup_from compared_from
  search-end i at h =
      let none : n - i ≡ 0 = omega arith in
      rw none (ap (answer _) (omega arith))

  module _ (i at : ℕ) (more : i < n) where
    pub search-broken : whole_at s at ≡ false → after s name n i at ≡ answer None i
    unfolding lookup_from compared_from
    search-broken broken =
        let left : n - i ≡ suc (n - (i + 1)) = omega arith in
        rw (left, broken) (ap (answer _) (omega arith))

    pub search-further :
        whole_at s at ≡ true → less (name_at s at) name ≡ true → after s name n i at ≡ after s name n (i + 1) (next_at s at)
    unfolding lookup_from compared_from
    search-further whole smaller =
        let left : n - i ≡ suc (n - (i + 1)) = omega arith in
        rw (left, whole, smaller) (ap (answer _) (omega arith))

    pub search-stop :
        whole_at s at ≡ true → less (name_at s at) name ≡ false →
        after s name n i at ≡ answer (found_if (equal (name_at s at) name) s at) (i + 1)
    unfolding lookup_from compared_from
    search-stop whole greater =
        let left : n - i ≡ suc (n - (i + 1)) = omega arith in
        rw (left, whole, greater)

-- what is found is what lookup gives
pub search-found : (s name : List ℕ) {r : Search} → r ≡ find_of s name → r.found ≡ lookup s name
unfolding find_of
search-found s name e = ap (λ (r : Search). r.found) e

-- ---- the first entry that has the name is the one entry that has it

nothing : {a : ℕ} → None ≡ Some a → ⊥
nothing h = let z : ◌≡◌ {A = ℕ} 0 1 = cc in omega arith

-- what is known where the first of several entries passes
rise :
    (s : List ℕ) (at : ℕ) (last : List ℕ) (n : ℕ) → entries_from s (suc n) at last ≡ true →
    (whole_at s at ≡ true) × (less last (name_at s at) ≡ true) × (entries_from s n (next_at s at) (name_at s at) ≡ true)
unfolding entries_from
rise s at last n h =
    let r = (and-eq-true_iff _ (entries_from s n (next_at s at) (name_at s at))).0 h in
    let l = (and-eq-true_iff (entry_at s at) (less last (name_at s at))).0 r.0 in
    (entry_whole s at l.0, l.1, r.1)

-- a test that cannot hold
fails : (t : Bool) → (t ≡ true → ⊥) → t ≡ false
fails true h = absurd (h refl)
fails false h = refl

-- a name is not one that is greater
differs : (a b : List ℕ) → less a b ≡ true → equal a b ≡ false
differs a b h = fails _ λ e. false≢true (sym (less-irreflexive b) ∙ rw (equal-true a b e) at h)

module _ (s name : List ℕ) where
  -- the first of several entries, or the rest, has what was found
  step-found :
      {a : ℕ} (n at : ℕ) (t e : Bool) (rest : Option ℕ) → equal (name_at s at) name ≡ e →
      (rest ≡ Some a → Listed s n (next_at s at) name a) →
      cond t (cond e (Some (address_at s at)) rest) None ≡ Some a → Listed s (suc n) at name a
  unfolding entry_start
  step-found n at false e rest same next h = absurd (nothing h)
  step-found n at true true rest same next h =
      record { number = 0; counted = omega arith; named = equal-true _ _ same; addressed = cc }
  step-found n at true false rest same next h =
      let l = next h in
      record { number = suc l.number; counted = omega arith; named = l.named; addressed = l.addressed }

  found-listed : {a : ℕ} (n at : ℕ) → first_named_from s name n at ≡ Some a → Listed s n at name a
  unfolding first_named_from
  found-listed zero at h = absurd (nothing h)
  found-listed (suc n) at h =
      step-found n at (whole_at s at) _ (first_named_from s name n (next_at s at)) refl (found-listed n (next_at s at)) h

  -- a name that the entries hold is greater than the name before them
  later :
      (n at : ℕ) (last : List ℕ) (k : ℕ) → entries_from s n at last ≡ true → k < n →
      less last (name_at s (entry_start s at k)) ≡ true
  unfolding entries_from entry_start
  later zero at last k h g = absurd (omega arith)
  later (suc n) at last zero h g = (rise s at last n h).1
  later (suc n) at last (suc k) h g =
      let r = rise s at last n h in
      less-transitive last (name_at s at) _ r.1 (later n (next_at s at) (name_at s at) k r.2 (omega arith))

  -- the name of one of the entries is found, and no earlier entry is taken for it
  listed_found :
      (n at : ℕ) (last : List ℕ) (k : ℕ) → entries_from s n at last ≡ true → k < n → name_at s (entry_start s at k) ≡ name →
      first_named_from s name n at ≡ Some (address_at s (entry_start s at k))
  unfolding first_named_from entry_start
  listed_found zero at last k h g e = absurd (omega arith)
  listed_found (suc n) at last zero h g e = rw ((rise s at last n h).0, e, equal-same name)
  listed_found (suc n) at last (suc k) h g e =
      let r = rise s at last n h in
      let after : less (name_at s at) name ≡ true = rw e at (later n (next_at s at) (name_at s at) k r.2 (omega arith)) in
      rw (r.0, differs _ _ after) (listed_found n (next_at s at) (name_at s at) k r.2 (omega arith) e)

  -- ---- lookup, which stops at the first name that is not smaller, finds the first entry that has the name

  -- no entry has this name, where the name before them is not smaller
  none_named :
      (n at : ℕ) (last : List ℕ) → entries_from s n at last ≡ true → less last name ≡ false → first_named_from s name n at ≡ None
  unfolding first_named_from
  none_named zero at last h g = refl
  none_named (suc n) at last h g =
      let r = rise s at last n h in
      let other : equal (name_at s at) name ≡ false =
      fails _ λ e. false≢true (sym g ∙ rw (equal-true (name_at s at) name e) at r.1) in
      let past : less (name_at s at) name ≡ false =
      fails _ λ e. false≢true (sym g ∙ less-transitive last (name_at s at) name r.1 e) in
      rw (r.0, other) (none_named n (next_at s at) (name_at s at) r.2 past)

  -- one entry: the name is smaller, or it is not and decides
  step_stays :
      (n at : ℕ) (t e : Bool) (rest : Option ℕ) → less (name_at s at) name ≡ t → equal (name_at s at) name ≡ e →
      (t ≡ false → first_named_from s name n (next_at s at) ≡ None) → rest ≡ first_named_from s name n (next_at s at) →
      cond t rest (found_if e s at) ≡ cond e (Some (address_at s at)) (first_named_from s name n (next_at s at))
  step_stays n at true true rest l q none same = absurd (false≢true (sym (differs _ _ l) ∙ q))
  step_stays n at true false rest l q none same = same
  step_stays n at false true rest l q none same = refl
  step_stays n at false false rest l q none same = sym (none refl)

  stays : (n at : ℕ) (last : List ℕ) → entries_from s n at last ≡ true → lookup_from s name n at ≡ first_named_from s name n at
  unfolding lookup_from first_named_from
  stays zero at last h = refl
  stays (suc n) at last h =
      let r = rise s at last n h in
      let after = next_at s at in
      rw r.0
      (step_stays n at _ _ _ refl refl (none_named n after (name_at s at) r.2) (stays n after (name_at s at) r.2))

  -- in a valid list, lookup gives what the search past greater names gives
  pub lookup-stays : valid s ≡ true → lookup s name ≡ first_named s name
  unfolding valid lookup first_named
  lookup-stays h =
      let v = ends (leb 7 (length s)) _ _ (entries_from s (list_count s) 7 []) h in
      rw v.0 (stays (list_count s) 7 [] v.1)

  first-listed : (a : ℕ) → valid s ≡ true → (first_named s name ≡ Some a) ↔ Listed s (list_count s) 7 name a
  unfolding valid first_named
  first-listed a h =
      let v = ends (leb 7 (length s)) _ _ (entries_from s (list_count s) 7 []) h in (
        λ found. found-listed (list_count s) 7 (rw v.0 at found),
        λ l. rw v.0 (listed_found (list_count s) 7 [] l.number v.1 l.counted l.named ∙ ap Some l.addressed),
      )

  -- in a valid list, lookup answers an address exactly where an entry has this name and this address
  pub lookup-listed : (a : ℕ) → valid s ≡ true → (lookup s name ≡ Some a) ↔ Listed s (list_count s) 7 name a
  lookup-listed a h = rw (lookup-stays h) (first-listed a h)
