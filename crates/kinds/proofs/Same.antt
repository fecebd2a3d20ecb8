-- The derived `==` of two kinds is the rules' comparison of them, which holds of one kind alone.
use mathlib.Core.Path.{◌≡◌, refl, ◌∙◌}
use mathlib.Core.Bool.{true}
use denote.Enum.Declared.{tag_of}
use denote.Enum.Bare.{sameb, same_true}
use Rattle.kinds.specs.Kinds.{kind_code, is_kind}
use Rattle.kinds.specs.contracts.Kind.{the_type}
use Rattle.kinds.specs.declared.Kind.{Kind}
use Rattle.kinds.specs.declared.Kind.TheVariants.{
  Null,
  Unnamed,
  Placed,
  Records,
  Depends,
  BuildId,
  Symbols,
  Strings,
  Relocations,
  Ignored,
  Unknown,
}

-- a kind's place in the enum is its number
coded : (k : Kind) → tag_of the_type k ≡ kind_code k
coded Null = refl
coded Unnamed = refl
coded Placed = refl
coded Records = refl
coded Depends = refl
coded BuildId = refl
coded Symbols = refl
coded Strings = refl
coded Relocations = refl
coded Ignored = refl
coded Unknown = refl

pub same-kind : (a b : Kind) → sameb the_type a b ≡ is_kind a b
same-kind a b = rw (coded a, coded b)

pub one-kind : (a b : Kind) → is_kind a b ≡ true → a ≡ b
one-kind a b h = same_true the_type tt a b (same-kind a b ∙ h)
