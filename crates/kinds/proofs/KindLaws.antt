-- Names and their beginnings: which names a beginning rules out; and which kinds a name gives.
use Prim.Native.Nat.{ℕ, ◌+◌, ◌≤◌, ◌<◌}
use mathlib.Core.Path.{◌≡◌, refl, ap}
use mathlib.Core.Bool.{Bool, true, false, cond, not, and-false}
use mathlib.Core.List.{List}
use native.Mathlib.Omega.{arith}
use borrow.Author.Tests.{ne_eqb, le-leb, lt-leb}
use lib.Dec.{eqb}
use lib.ListN.{length, get_or, length-take}
use Rattle.words.proofs.Order.{equal-true, equal-lengths}
use Rattle.elf.specs.Name.{Name, named, unnamed, is_named}
use Rattle.elf.specs.declared.SectionHeader.{SectionHeader}
use Rattle.kinds.specs.Kinds.{starts_with, in_family, kind_named, kind_of, is_kind}
use Rattle.kinds.specs.declared.Kind.{Kind}
use Rattle.kinds.specs.declared.Kind.TheVariants.{Null, Unnamed}

module _ (front name : List ℕ) where
  -- a name shorter than the beginning does not begin so
  pub too_short : length name < length front → starts_with front name ≡ false
  unfolding starts_with
  too_short h = equal-lengths _ _ (simp length-take (omega arith))

  pub long-enough : starts_with front name ≡ true → length front ≤ length name
  unfolding starts_with
  long-enough h = omega (arith, simp length-take at (ap length (equal-true _ _ h)))

  -- a name of the family is the front alone, or has at least two bytes more, of which the first is a dot
  pub one_more : (length name ≡ length front → ⊥) → length name < length front + 2 → in_family front name ≡ false
  unfolding in_family
  one_more h g = simp (ne_eqb _ _ h, lt-leb _ _ g, and-false)

  pub by-dot :
      starts_with front name ≡ true → length front + 2 ≤ length name →
      in_family front name ≡ eqb (get_or name (length front) 0) 46
  unfolding in_family
  by-dot h g = simp (h, ne_eqb (length name) (length front) (omega arith), le-leb _ _ g)

-- ---- the kinds that a name gives

-- a test of a kind that is chosen by another test
chosen : (w : Kind) (test : Bool) (k l : Kind) → is_kind (cond test k l) w ≡ cond test (is_kind k w) (is_kind l w)
chosen w true k l = refl
chosen w false k l = refl

-- a choice between an answer and itself
no-choice : (test answer : Bool) → cond test answer answer ≡ answer
no-choice true answer = refl
no-choice false answer = refl

-- neither that of a section with no name nor that of type 0
never-unnamed : (h : SectionHeader) (name : List ℕ) → is_kind (kind_named h name) Unnamed ≡ false
unfolding kind_named
never-unnamed h name = simp (chosen Unnamed, no-choice)

never-null : (h : SectionHeader) (name : List ℕ) → is_kind (kind_named h name) Null ≡ false
unfolding kind_named
never-null h name = simp (chosen Null, no-choice)

pub kind-unnamed : (h : SectionHeader) (name : Name) → is_kind (kind_of h name) Unnamed ≡ not (is_named name)
kind-unnamed h (named name) = never-unnamed h name
kind-unnamed h unnamed = refl

pub kind-null : (h : SectionHeader) (name : Name) → is_kind (kind_of h name) Null ≡ false
kind-null h (named name) = never-null h name
kind-null h unnamed = refl
