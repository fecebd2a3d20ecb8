-- `fields::is_plain_field` meets its contract: a field that ends where it begins is empty.
use Rattle.script.proofs.Line.{plain-part}
use Rattle.script.proofs.fields.is_plain_field.Goals as goal

pub returns : goal.returns
returns c = let f = c.field-span in
    let line = c.args.line.now in
    plain-part line f.result.from f.result.to _ f.ensures.0 f.ensures.1 f.ensures.2
