-- Two lists that agree on a range, and two scans that agree at each number: what is read of them, and what they give, is the same.
use Prim.Native.Nat.{ℕ, zero, suc, ◌+◌, ◌≤◌, ◌<◌}
use mathlib.Core.Path.{◌≡◌, refl, ap, ◌∙◌}
use mathlib.Core.Bool.{Bool, true, false, cond}
use mathlib.Core.List.{List, []}
use native.Mathlib.Omega.{arith}
use lib.ListN.{length, get_or, length-take, length-drop}
use lib.Seq.{ext_get_or}
use Rattle.words.specs.Number.{le, le_at}
use Rattle.words.specs.Scan.{scan, each, filled}
use Rattle.words.specs.Splice.{part}
use Rattle.words.proofs.Splice.{get_d_part}
use Rattle.elf.specs.declared.SectionHeader.{SectionHeader}
use Rattle.object.specs.Sections.{contents_of}

-- ---- lists of the same length

-- the elements from `at` on and before `end` are the same
abbrev pub Agree : List ℕ → List ℕ → ℕ → ℕ → Type 0
Agree a b at end = (p : ℕ) → at ≤ p → p < end → get_or a p 0 ≡ get_or b p 0

part-short : (s : List ℕ) (at n i : ℕ) → i < length (part s at n) → i < n
unfolding part
part-short s at n i h = omega (arith, simp length-take at h)

module _ (a b : List ℕ) (size : length a ≡ length b) where
  part_length : (at n : ℕ) → length (part a at n) ≡ length (part b at n)
  unfolding part
  part_length at n = simp (length-take, length-drop, size)

  pub part-alike : (at n : ℕ) → Agree a b at (at + n) → part a at n ≡ part b at n
  part-alike at n agree = ext_get_or 0 (part a at n) (part b at n) (part_length at n) λ i h.
      let inside = part-short a at n i h in
      rw (get_d_part a at n i 0 inside, get_d_part b at n i 0 inside) (agree (at + i) (omega arith) (omega arith))

  pub number-alike : (n at : ℕ) → Agree a b at (at + n) → le_at n a at ≡ le_at n b at
  unfolding le_at
  number-alike n at agree = ap le (part-alike at n agree)

  pub contents-alike : (h : SectionHeader) → Agree a b h.sh_offset (h.sh_offset + h.sh_size) → contents_of a h ≡ contents_of b h
  unfolding contents_of
  contents-alike h agree = part-alike h.sh_offset h.sh_size agree

-- ---- tests, and numbers gone through

-- a choice of which the answers agree where they are chosen
pub cond-alike :
    {A : Type 0} (t : Bool) (x y z w : A) → (t ≡ true → x ≡ y) → (t ≡ false → z ≡ w) → cond t x z ≡ cond t y w
cond-alike true x y z w first second = first refl
cond-alike false x y z w first second = second refl

pub scan-alike :
    {A : Type 0} (f g : ℕ → A → A) (last : A) (i k : ℕ) →
    ((j : ℕ) → i ≤ j → j < i + k → (rest : A) → f j rest ≡ g j rest) → scan f last i k ≡ scan g last i k
unfolding scan
scan-alike f g last i zero same = refl
scan-alike f g last i (suc k) same =
    same i (omega arith) (omega arith) _ ∙ ap (g i) (scan-alike f g last (suc i) k λ j low high. same j (omega arith) (omega arith))

pub filled-alike :
    {A : Type 0} (f g : ℕ → A) (z : A) (m n : ℕ) → ((j : ℕ) → j < n → f j ≡ g j) → filled f z m n ≡ filled g z m n
unfolding filled
filled-alike {A} f g z m n same =
    let front : each f 0 n ≡ each g 0 n = scan-alike {A = List A} _ _ [] 0 n λ j low high rest. rw (same j (omega arith)) in
    rw front
