-- `decimal::read` meets its contract: the digits so far make `v`, which is at most `most`.
use Prim.Native.Nat.{◌≤◌}
use mathlib.Core.Path.{◌≡◌}
use mathlib.Core.Bool.{true}
use lib.ListN.{drop}
use Rattle.words.specs.Find.{every}
use Rattle.script.specs.Decimal.{is_digit, value_from, value}
use Rattle.script.specs.Fields.{is_plain}
use Rattle.script.proofs.decimal.read.Given as goal

abbrev pub invariant-loop-digit : goal.invariant-loop-digit
invariant-loop-digit l = (is_plain l.s ≡ true) × (every is_digit l.s ≡ every is_digit (drop l.digit-index l.s)) × (value l.s ≡ value_from l.v (drop l.digit-index l.s)) × (l.v ≤ l.most)
