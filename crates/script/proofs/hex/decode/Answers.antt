-- `hex::decode` meets its contract: the first `i` bytes are written.
use Prim.Native.Nat.{◌+◌, ◌*◌}
use mathlib.Core.Path.{◌≡◌, sym, ◌∙◌}
use native.Mathlib.Omega.{arith}
use lib.ListN.{get_or}
use Rattle.words.proofs.Find.{every-at}
use Rattle.words.proofs.Written.{written_none, written-more, written_all}
use Rattle.script.specs.Hex.{is_hex_digit, hex_value}
use Rattle.script.proofs.Digits.{hex-digits, taken-size, taken-byte}
use Rattle.script.proofs.hex.decode.Goals as goal

pub loop-i-init : goal.loop-i-init
loop-i-init c = written_none _ _ _

pub digit_value-high-requires : goal.digit_value-high-requires
digit_value-high-requires c = every-at is_hex_digit _ (hex-digits _ c.requires.0) _ 0 (omega arith)

pub digit_value-low-requires : goal.digit_value-low-requires
digit_value-low-requires c = every-at is_hex_digit _ (hex-digits _ c.requires.0) _ 0 (omega arith)

pub loop-i-preserved : goal.loop-i-preserved
loop-i-preserved c = let a = c.args in
    let l = c.loop-i in
    let size = taken-size a.s.now a.n c.requires.1 in
    let byte = taken-byte a.s.now a.n l.i (omega arith) c.requires.1 in
    let digits :
    16 * c.digit_value-high.result + c.digit_value-low.result
    ≡ 16 * hex_value (get_or a.s.now (2 * l.i) 0) + hex_value (get_or a.s.now (2 * l.i + 1) 0) =
    rw (c.digit_value-high.ensures.0, c.digit_value-low.ensures.0) in
    written-more _ _ _ _ l.invariant _ (omega (arith, size)) (omega (arith, size)) (digits ∙ sym byte)

pub returns : goal.returns
returns c = let size = taken-size c.args.s.now c.args.n c.requires.1 in
    written_all _ _ _ _ c.loop-i.invariant (omega (arith, size))
