-- `read_symbols` meets its contract: the cell of every number below `i` says what its symbol is worth.
use Prim.Native.Nat.{ℕ, ◌<◌}
use mathlib.Core.Path.{◌≡◌}
use lib.ListN.{length}
use Rattle.linking.specs.Kept.{symbols_max, Stands}
use Rattle.linking.specs.Linking.{Linking}
use Rattle.linking.proofs.KeptLaws.{HoldsAt}
use Rattle.linking.proofs.kept.read_symbols.Given as goal

abbrev pub invariant-loop-i : goal.invariant-loop-i
invariant-loop-i l = (length l.cells ≡ symbols_max)
    × ((k : Linking) → Stands k l.slot l.layout → k.symbols ≡ l.table → (j : ℕ) → j < l.i → HoldsAt k l.cells j)
