-- `lines::bad_line` meets its contract: words, number and line feed, one behind the other.
use native.Mathlib.Omega.{arith}
use Rattle.answers.specs.Answers.{bad_line}
use Rattle.answers.proofs.Written.{ends, behind}
use Rattle.answers.proofs.Lengths.{length-decimal}
use Rattle.answers.proofs.lines.bad_line.Goals as goal

pub decimal-digits-requires : goal.decimal-digits-requires
decimal-digits-requires c = omega (arith, ends _ _ _ c.text-words.ensures)

pub byte-requires : goal.byte-requires
byte-requires c = omega (arith, ends _ _ _ c.text-words.ensures, ends _ _ _ c.decimal-digits.ensures, length-decimal c.args.n)

pub returns : goal.returns
unfolding bad_line
returns c = behind _ _ _ _ (behind _ _ _ _ c.text-words.ensures c.decimal-digits.ensures (omega arith)) c.byte.ensures (omega arith)
