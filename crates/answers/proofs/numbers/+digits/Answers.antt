-- `numbers::digits` meets its contract: the last digit behind the others, of which there are at most k - 1.
use Prim.Native.Nat.{◌-◌, ◌/◌}
use native.Mathlib.Omega.{arith}
use Rattle.answers.proofs.Written.{ends}
use Rattle.answers.proofs.Lengths.{length_digits}
use Rattle.answers.proofs.Digits.{written_none, written_one, written-more}
use Rattle.answers.proofs.numbers.+digits.Goals as goal

pub returns-then-k-eq0 : goal.returns-then-k-eq0
returns-then-k-eq0 t c = written_none _ _ _ _ c.if-k-eq0.true

pub returns-then-n-lt10 : goal.returns-then-n-lt10
returns-then-n-lt10 t c = written_one _ _ _ _ c.if-k-eq0.false c.if-n-lt10.true c.digit.ensures c.byte.ensures

pub byte-requires-2 : goal.byte-requires-2
byte-requires-2 t c = let a = c.args in
    omega (arith, ends _ _ _ c.digits-end.ensures, length_digits (a.k - 1) (a.n / 10))

pub returns : goal.returns
returns t c =
    written-more _ _ _ _ c.if-k-eq0.false c.if-n-lt10.false c.digit-2.ensures c.digits-end.ensures c.byte-2.ensures
    (omega arith)
