-- `listed::name` meets its contract: the bytes that are copied are those of the name.
use Prim.Native.Nat.{◌-◌, ◌*◌}
use mathlib.Core.Path.{◌∙◌}
use Rattle.words.specs.Number.{le_at}
use Rattle.records.specs.Limits.{name_max}
use Rattle.answers.proofs.Entries.{name-part}
use Rattle.answers.proofs.listed.name.Goals as goal

pub returns : goal.returns
returns c = let a = c.args in
    c.text.ensures
    ∙ rw (name-part a.names.now (name_max * a.j) c.shown-n.result (le_at 4 a.lengths.now (4 * a.j) - 1) name_max
    (c.shown-n.ensures ∙ rw c.read-len.ensures.value))
