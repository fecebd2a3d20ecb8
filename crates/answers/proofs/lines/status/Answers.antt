-- `lines::status` meets its contract: word, space, number and line feed, one behind the other.
use native.Mathlib.Omega.{arith}
use Rattle.answers.specs.Answers.{status_line}
use Rattle.answers.proofs.Written.{ends, behind}
use Rattle.answers.proofs.Lengths.{length-integer, length-word}
use Rattle.answers.proofs.lines.status.Goals as goal

pub byte-space-requires : goal.byte-space-requires
byte-space-requires c = omega (arith, ends _ _ _ c.status_word-word.ensures, length-word c.args.status)

pub integer-number-requires : goal.integer-number-requires
integer-number-requires c = omega (arith, ends _ _ _ c.status_word-word.ensures, length-word c.args.status, ends _ _ _ c.byte-space.ensures)

pub byte-requires : goal.byte-requires
byte-requires c = let a = c.args in
    omega (
      arith,
      ends _ _ _ c.status_word-word.ensures,
      length-word a.status,
      ends _ _ _ c.byte-space.ensures,
      ends _ _ _ c.integer-number.ensures,
      length-integer a.res,
    )

pub returns : goal.returns
unfolding status_line
returns c = let two = behind _ _ _ _ c.status_word-word.ensures c.byte-space.ensures (omega arith) in
    let three = behind _ _ _ _ two c.integer-number.ensures (omega arith) in
    behind _ _ _ _ three c.byte.ensures (omega arith)
