-- `lookups_compare` meets its contract: the order has its number.
use Rattle.std.proofs.Common.{Ordering}
use Prim.Native.Nat.{ℕ}
use mathlib.Core.Path.{◌≡◌, ap}
use mathlib.Core.List.{List}
use Rattle.words.specs.Order.{order_of, compared_bytes, comparison}
use Rattle.words.specs.declared.bytes.Comparison.{Comparison}
use Rattle.words.proofs.Order.{compared-order}
use Rattle.lookups.specs.Numbers.{order_number}
use Rattle.lookups.proofs.lookups_compare.Goals as goal

-- the numbers of a comparison
numbers :
    (a b : List ℕ) {r : Comparison} {o : Ordering} → r ≡ comparison a b → r.order ≡ o →
    (order_number o ≡ order_number (order_of a b)) × (r.compared ≡ compared_bytes a b)
unfolding comparison
numbers a b e h = (rw (← compared-order a b e, h), ap (λ (r : Comparison). r.compared) e)

pub returns-in-Less : goal.returns-in-Less
returns-in-Less c =
    let n = numbers _ _ c.compare-comparison.ensures c.in-Less.is in
    record { value = n.0; compared_after = n.1 }

pub returns-in-Equal : goal.returns-in-Equal
returns-in-Equal c =
    let n = numbers _ _ c.compare-comparison.ensures c.in-Equal.is in
    record { value = n.0; compared_after = n.1 }

pub returns-in-Greater : goal.returns-in-Greater
returns-in-Greater c =
    let n = numbers _ _ c.compare-comparison.ensures c.in-Greater.is in
    record { value = n.0; compared_after = n.1 }
