-- A name that a table has: how it is cut out where its ending zero was found, its bytes, the zero after it, and that none of its own
-- bytes is zero.
use Rattle.std.proofs.Common.{Some, None, Option, ℕ}
use Prim.Native.Nat.{ℕ, ◌+◌, ◌-◌, ◌≤◌, ◌<◌}
use mathlib.Core.Path.{◌≡◌, refl, sym, ap, ◌∙◌}
use mathlib.Core.Bool.{false}
use mathlib.Core.List.{List}
use native.Mathlib.Omega.{arith}
use lib.ListN.{length, get_or}
use Rattle.words.specs.Splice.{part}
use Rattle.words.specs.Name.{zero_from, is_found, has_zero}
use Rattle.words.proofs.Name.{zero-at}
use Rattle.words.proofs.Splice.{length_part, get_d_part}
use Rattle.elf.specs.Name.{named, unnamed, ended_at, name_in}

-- ---- a name cut out of its table

-- the name at offset whose ending zero stands at end: the bytes from offset to end
pub record Cut (table : List ℕ) (offset end : ℕ) : Type 0 where
  pub low : offset ≤ end
  pub high : end < length table
  pub name : name_in table offset ≡ named (part table offset (end - offset))
  pub size : length (part table offset (end - offset)) ≡ end - offset

-- by what the search for the ending zero answered
module _ (table : List ℕ) (offset : ℕ) {found : Option ℕ} (searched : found ≡ zero_from table offset) where
  pub name-found : {end : ℕ} → found ≡ Some end → Cut table offset end
  unfolding name_in
  name-found {end} e =
      let ended : zero_from table offset ≡ Some end = sym searched ∙ e in
      let z = zero-at table offset end ended in
      record {
        low = z.low;
        high = z.high;
        name = rw ended;
        size = length_part table offset (end - offset) (omega (arith, z.low, z.high));
      }

  pub name-missing : found ≡ None → name_in table offset ≡ unnamed
  unfolding name_in
  name-missing e = rw (← searched, e)

-- ---- its bytes

pub has-no-zero : (s : List ℕ) → ((j : ℕ) → j < length s → get_or s j 0 ≡ 0 → ⊥) → has_zero s ≡ false
has-no-zero s h = by_cases (zero_from s 0) refl
  where
    by_cases : (f : Option ℕ) → zero_from s 0 ≡ f → has_zero s ≡ false
    by_cases (Some e) f = let z = zero-at s 0 e f in absurd (h e z.high z.zero-there)
    by_cases None f = ap is_found f

pub record NameAt (table : List ℕ) (offset : ℕ) (n : List ℕ) : Type 0 where
  pub bytes : n ≡ part table offset (length n)
  pub within : offset + length n < length table
  pub ended : get_or table (offset + length n) 0 ≡ 0
  pub no_zero : (j : ℕ) → j < length n → get_or n j 0 ≡ 0 → ⊥

module _ (table : List ℕ) (offset : ℕ) where
  -- the bytes before the first zero
  before-zero : (end : ℕ) → zero_from table offset ≡ Some end → NameAt table offset (part table offset (end - offset))
  before-zero end f =
      let z = zero-at table offset end f in
      let cut : Cut table offset end = name-found table offset refl f in
      let place : offset + (end - offset) ≡ end = omega (arith, z.low) in
      record {
        bytes = rw cut.size;
        within = rw (cut.size, place) z.high;
        ended = rw (cut.size, place) z.zero-there;
        no_zero = λ j g.
            let h : j < end - offset = omega (arith, cut.size) in
            rw (get_d_part table offset (end - offset) j 0 h) (z.none_before (offset + j) (omega arith) (omega arith));
      }

  pub name-at : (n : List ℕ) → name_in table offset ≡ named n → NameAt table offset n
  unfolding name_in
  name-at n e = by_cases (zero_from table offset) refl e
    where
      by_cases : (f : Option ℕ) → zero_from table offset ≡ f → ended_at table offset f ≡ named n → NameAt table offset n
      by_cases (Some end) f e = let same : part table offset (end - offset) ≡ n = cc in rw (← same) (before-zero end f)
      by_cases None f e = let z : ◌≡◌ {A = ℕ} 0 1 = cc in absurd (omega arith)

  pub name-has-no-zero : (n : List ℕ) → name_in table offset ≡ named n → has_zero n ≡ false
  name-has-no-zero n e = has-no-zero n (name-at n e).no_zero
