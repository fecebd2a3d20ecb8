-- `fields::begin` meets its contract: field `k` of the line is field `left` of what follows.
use mathlib.Core.Path.{◌≡◌}
use lib.ListN.{drop}
use Rattle.script.specs.Fields.{field_of}
use Rattle.script.proofs.fields.begin.Given as goal

abbrev pub invariant-loop-i : goal.invariant-loop-i
invariant-loop-i l = field_of l.line l.k ≡ field_of (drop l.i l.line) l.left
