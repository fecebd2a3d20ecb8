-- `fields::is_command` meets its contract: first the word, then how many fields stand behind it.
use mathlib.Core.Path.{sym, ap, ◌∙◌}
use Rattle.words.proofs.Tests.{refuted, held}
use Rattle.words.specs.Order.{equal}
use Rattle.words.specs.Splice.{part}
use Rattle.script.proofs.Line.{other_word, same_word}
use Rattle.script.proofs.fields.is_command.Goals as goal

pub returns-then-not-same : goal.returns-then-not-same
unfolding part
returns-then-not-same c = let a = c.args in
    let f = c.field-span in
    let word = ap (λ field. equal field a.word.now) f.ensures.2 in
    sym (other_word a.line.now a.word.now a.n (sym word ∙ refuted c.same.ensures c.if-not-same.true))

pub returns : goal.returns
unfolding part
returns c = let a = c.args in
    let f = c.field-span in
    let word = ap (λ field. equal field a.word.now) f.ensures.2 in
    let same = sym word ∙ held c.same.ensures c.if-not-same.false in
    sym (same_word a.line.now a.word.now a.n _ same c.behind_first.ensures)
