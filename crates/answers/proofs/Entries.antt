-- The lines of list: the name of an entry, and the lines of one entry more.
use Rattle.std.proofs.Common.{Result, Ok, Err}
use Rattle.std.specs.Prelude.{IfOk}
use Prim.Native.Nat.{ℕ, zero, suc, ◌+◌, ◌-◌, ◌*◌, ◌≤◌, min}
use mathlib.Core.Path.{◌≡◌, refl, ap, ◌∙◌}
use mathlib.Core.List.{List, [], ◌∷◌, ◌++◌, append-nil, append_assoc}
use native.Mathlib.Nat.{add-zero, zero-add, zero-min, min-zero, suc-min-suc}
use native.Mathlib.Numerals.{add-one}
use native.Mathlib.Omega.{arith}
use lib.ListN.{length, take, drop, length-append}
use Rattle.words.specs.Scan.{scan}
use Rattle.words.specs.Splice.{part}
use Rattle.records.specs.declared.refusal.Refusal.{Refusal}
use Rattle.memory.specs.Memory.{slot_count}
use Rattle.listing.specs.List.{Buffers}
use Rattle.listing.specs.declared.Listed.{Listed}
use Rattle.answers.specs.Answers.{entry_line, entry_lines, lines_after}
use Rattle.answers.specs.Written.{line_room}
use Rattle.answers.proofs.Lengths.{length-refusal, length-head, length-entry}

-- ---- a name

take_min : {A : Type 0} (k m : ℕ) (l : List A) → take (min k m) l ≡ take k (take m l)
take_min zero m l = rw zero-min
take_min (suc k) zero l = rw min-zero
take_min (suc k) (suc m) [] = rw suc-min-suc
take_min (suc k) (suc m) (x ∷ l) = rw suc-min-suc (ap (λ (t : List _). x ∷ t) (take_min k m l))

-- the bytes from start to end, where these are the shorter of k and m
pub name-part : (s : List ℕ) (start n k m : ℕ) → n ≡ min k m → take (start + n - start) (drop start s) ≡ take k (part s start m)
unfolding part
name-part s start n k m e =
    let all : start + n - start ≡ min k m = omega arith in
    rw all (take_min k m (drop start s))

-- ---- one entry more

scan-more :
    (f : ℕ → List ℕ) (i k : ℕ) → scan (λ j rest. f j ++ rest) [] i (suc k) ≡ scan (λ j rest. f j ++ rest) [] i k ++ f (i + k)
unfolding scan
scan-more f i zero = rw add-zero (append-nil (f i))
scan-more f i (suc k) =
    let next : i + suc k ≡ suc i + k = omega arith in
    rw (next, append_assoc) (ap (λ (rest : List ℕ). f i ++ rest) (scan-more f (suc i) k))

module _ (b : Buffers) where
  pub entries_none : entry_lines b 0 ≡ []
  unfolding entry_lines scan
  entries_none = refl

  pub entries-more : (j : ℕ) → entry_lines b (j + 1) ≡ entry_lines b j ++ entry_line b j
  unfolding entry_lines
  entries-more j = rw add-one (scan-more (entry_line b) 0 j ∙ rw zero-add)

  entries-within : (i k : ℕ) → length (scan (λ j rest. entry_line b j ++ rest) [] i k) ≤ line_room * k
  unfolding scan
  entries-within i zero = omega arith
  entries-within i (suc k) = rw length-append (omega (arith, length-entry b i, entries-within (suc i) k))

  pub length-entries : (n : ℕ) → length (entry_lines b n) ≤ line_room * n
  unfolding entry_lines
  length-entries n = entries-within 0 n

-- ---- the answer of list

pub length-list :
    (b : Buffers) (answer : Result Listed Refusal) → IfOk answer (λ x. x.written ≤ slot_count) → length (lines_after b answer) ≤ 9 * line_room
unfolding lines_after
length-list b (Ok x) few = rw length-append (omega (arith, length-head x.version x.written, length-entries b x.written, few))
length-list b (Err r) few = omega (arith, length-refusal r)
