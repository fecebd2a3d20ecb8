-- `hex::digit_value` meets its contract: a hex digit is a decimal one or a letter.
use native.Mathlib.Omega.{arith}
use borrow.Author.Tests.{le-leb, lt-leb}
use Rattle.script.proofs.Digits.{digit-begins, letter-bounds}
use Rattle.script.proofs.hex.digit_value.Goals as goal

pub overflow_sub-result : goal.overflow_sub-result
overflow_sub-result c = omega (arith, digit-begins _ c.requires c.if-b-le57.true)

pub returns-then-b-le57 : goal.returns-then-b-le57
returns-then-b-le57 c = (rw (le-leb _ _ c.if-b-le57.true), omega arith)

pub overflow_sub-result-2 : goal.overflow_sub-result-2
overflow_sub-result-2 c = omega (arith, (letter-bounds _ c.requires c.if-b-le57.false).0)

pub returns : goal.returns
returns c = (rw (lt-leb _ _ c.if-b-le57.false), omega (arith, (letter-bounds _ c.requires c.if-b-le57.false).1))
