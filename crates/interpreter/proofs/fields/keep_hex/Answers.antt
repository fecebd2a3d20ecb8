-- `fields::keep_hex` meets its contract: a byte for every two digits.
use Rattle.std.proofs.Common.{◌-◌, ◌/◌, ap, ◌∙◌, arith}
use Rattle.words.specs.Splice.{part}
use Rattle.words.proofs.Splice.{length_part}
use Rattle.script.specs.Hex.{hex_bytes}
use Rattle.script.proofs.Digits.{taken-size, hex-all}
use Rattle.interpreter.proofs.Front.{front-written}
use Rattle.interpreter.proofs.fields.keep_hex.Goals as goal

pub decode-requires : goal.decode-requires
unfolding part
decode-requires c = let f = c.field-span in
    let size = length_part c.args.line.now f.result.from (f.result.to - f.result.from) (omega arith) in
    (rw f.ensures.2 c.requires.0, omega (arith, size), omega arith)

pub returns : goal.returns
unfolding part
returns c = let a = c.args in
    let f = c.field-span in
    let decode = c.decode in
    let n = (f.result.to - f.result.from) / 2 in
    let size = length_part a.line.now f.result.from (f.result.to - f.result.from) (omega arith) in
    let bytes = part a.line.now f.result.from (f.result.to - f.result.from) in
    record {
      room = omega arith;
      same =
          rw decode.ensures (front-written a.out.now _ n (taken-size bytes n (omega (arith, size))))
          ∙ hex-all bytes n (omega (arith, size))
          ∙ ap hex_bytes f.ensures.2;
    }
