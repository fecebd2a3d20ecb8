-- `fields::keep_name` meets its contract: the field's bytes, and a zero behind them.
use Rattle.std.proofs.Common.{◌-◌, ◌<◌, [], ◌∷◌, ◌++◌, length, ap, ◌∙◌, add-one, arith, length-set}
use Rattle.words.specs.Splice.{part}
use Rattle.words.proofs.Splice.{length_part}
use Rattle.interpreter.specs.Lines.{name_in}
use Rattle.interpreter.proofs.Front.{front-ended}
use Rattle.interpreter.proofs.fields.keep_name.Goals as goal

pub returns : goal.returns
unfolding name_in part
returns c = let a = c.args in
    let f = c.field-span in
    let copy = c.copy in
    let size = length_part a.line.now f.result.from (f.result.to - f.result.from) (omega arith) in
    let kept = copy.auto.s in
    let inside : f.result.to - f.result.from < length copy.new.s = omega arith in
    record {
      room = rw (length-set, add-one) inside;
      same =
          rw copy.ensures (front-ended a.name.now _ _ 0 size (rw copy.ensures at inside))
          ∙ ap (λ field. field ++ (0 ∷ [])) f.ensures.2;
    }
