-- `lines::two_numbers` meets its contract: a number, a space and a number, one behind the other.
use native.Mathlib.Omega.{arith}
use Rattle.answers.proofs.Written.{ends, behind}
use Rattle.answers.proofs.Lengths.{length-decimal}
use Rattle.answers.proofs.lines.two_numbers.Goals as goal

pub byte-space-requires : goal.byte-space-requires
byte-space-requires c = omega (arith, ends _ _ _ c.decimal-first.ensures, length-decimal c.args.i)

pub decimal-requires : goal.decimal-requires
decimal-requires c = omega (arith, ends _ _ _ c.decimal-first.ensures, length-decimal c.args.i, ends _ _ _ c.byte-space.ensures)

pub returns : goal.returns
returns c = behind _ _ _ _ (behind _ _ _ _ c.decimal-first.ensures c.byte-space.ensures (omega arith)) c.decimal.ensures (omega arith)
