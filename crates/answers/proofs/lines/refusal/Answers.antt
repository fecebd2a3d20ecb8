-- `lines::refusal` meets its contract: the word, the number, a space, the place's numbers and a line feed, one behind the other.
use mathlib.Core.Path.{◌∙◌}
use native.Mathlib.Omega.{arith}
use Rattle.answers.specs.Answers.{refusal_line}
use Rattle.answers.proofs.Written.{ends, behind}
use Rattle.answers.proofs.Lengths.{length-decimal, length-place}
use Rattle.answers.proofs.lines.refusal.Goals as goal

pub decimal-first-requires : goal.decimal-first-requires
decimal-first-requires c = omega (arith, ends _ _ _ c.text-words.ensures)

pub byte-space-requires : goal.byte-space-requires
byte-space-requires c = omega (arith, ends _ _ _ c.text-words.ensures, ends _ _ _ c.decimal-first.ensures, length-decimal c.number-number.result)

pub place-second-requires : goal.place-second-requires
place-second-requires c = omega (
  arith,
  ends _ _ _ c.text-words.ensures,
  ends _ _ _ c.decimal-first.ensures,
  length-decimal c.number-number.result,
  ends _ _ _ c.byte-space.ensures,
)

pub byte-requires : goal.byte-requires
byte-requires c = omega (
  arith,
  ends _ _ _ c.text-words.ensures,
  ends _ _ _ c.decimal-first.ensures,
  length-decimal c.number-number.result,
  ends _ _ _ c.byte-space.ensures,
  ends _ _ _ c.place-second.ensures,
  length-place c.args.r.place,
)

pub returns : goal.returns
unfolding refusal_line
returns c = let two = behind _ _ _ _ c.text-words.ensures c.decimal-first.ensures (omega arith) in
    let three = behind _ _ _ _ two c.byte-space.ensures (omega arith) in
    let four = behind _ _ _ _ three c.place-second.ensures (omega arith) in
    behind _ _ _ _ four c.byte.ensures (omega arith) ∙ rw c.number-number.ensures.0
