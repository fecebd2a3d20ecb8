-- `listed::head` meets its contract: its two words with a number each and a line feed, one behind the other.
use native.Mathlib.Omega.{arith}
use Rattle.answers.specs.Answers.{head_line}
use Rattle.answers.proofs.Written.{ends, behind}
use Rattle.answers.proofs.Lengths.{length-decimal}
use Rattle.answers.proofs.listed.head.Goals as goal

pub decimal-second-requires : goal.decimal-second-requires
decimal-second-requires c = omega (arith, ends _ _ _ c.text-first.ensures)

pub text-third-requires : goal.text-third-requires
text-third-requires c = let long = length-decimal c.args.version in
    omega (arith, ends _ _ _ c.text-first.ensures, ends _ _ _ c.decimal-second.ensures, long)

pub decimal-fourth-requires : goal.decimal-fourth-requires
decimal-fourth-requires c = omega (
  arith,
  ends _ _ _ c.text-first.ensures,
  ends _ _ _ c.decimal-second.ensures,
  length-decimal c.args.version,
  ends _ _ _ c.text-third.ensures,
)

pub byte-requires : goal.byte-requires
byte-requires c = let a = c.args in
    omega (
      arith,
      ends _ _ _ c.text-first.ensures,
      ends _ _ _ c.decimal-second.ensures,
      length-decimal a.version,
      ends _ _ _ c.text-third.ensures,
      ends _ _ _ c.decimal-fourth.ensures,
      length-decimal a.count,
    )

pub returns : goal.returns
unfolding head_line
returns c = let two = behind _ _ _ _ c.text-first.ensures c.decimal-second.ensures (omega arith) in
    let three = behind _ _ _ _ two c.text-third.ensures (omega arith) in
    let four = behind _ _ _ _ three c.decimal-fourth.ensures (omega arith) in
    behind _ _ _ _ four c.byte.ensures (omega arith)
