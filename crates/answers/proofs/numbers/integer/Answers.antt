-- `numbers::integer` meets its contract: the digits, or a sign and the digits behind it.
use Prim.Native.Nat.{◌^◌}
use mathlib.Core.Path.{◌∙◌}
use native.Mathlib.Omega.{arith}
use borrow.Author.Tests.{lt-ltb, le-ltb}
use Rattle.answers.specs.Answers.{integer}
use Rattle.answers.proofs.Written.{ends, behind}
use Rattle.answers.proofs.numbers.integer.Goals as goal

pub returns-then-x-lt2147483648 : goal.returns-then-x-lt2147483648
unfolding integer
returns-then-x-lt2147483648 c = c.decimal.ensures ∙ rw (lt-ltb _ (2 ^ 31) c.if-x-lt2147483648.true)

pub decimal-requires-2 : goal.decimal-requires-2
decimal-requires-2 c = omega (arith, ends _ _ _ c.byte-end.ensures)

pub returns : goal.returns
unfolding integer
returns c = behind _ _ _ _ c.byte-end.ensures c.decimal-2.ensures (omega arith) ∙ rw (le-ltb _ (2 ^ 31) c.if-x-lt2147483648.false)
