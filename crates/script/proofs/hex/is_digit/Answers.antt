-- `hex::is_digit` meets its contract: the byte is below, among, between or behind the decimal digits and the letters.
use mathlib.Core.Path.{sym}
use native.Mathlib.Omega.{arith}
use Rattle.script.proofs.Digits.{hex-low, hex-digit, hex-between, hex-letter}
use Rattle.script.proofs.hex.is_digit.Goals as goal

pub returns-then-b-lt48 : goal.returns-then-b-lt48
returns-then-b-lt48 c = sym (hex-low _ c.if-b-lt48.true)

pub returns-then-b-le57 : goal.returns-then-b-le57
returns-then-b-le57 c = sym (hex-digit c.args.b (omega arith) c.if-b-le57.true)

pub returns-then-b-lt97 : goal.returns-then-b-lt97
returns-then-b-lt97 c = sym (hex-between c.args.b (omega arith) c.if-b-lt97.true)

pub returns : goal.returns
returns c = sym (hex-letter c.args.b (omega arith))
