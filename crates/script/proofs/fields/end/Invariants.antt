-- `fields::end` meets its contract: the bytes so far and the rest of the field are the field.
use Prim.Native.Nat.{◌-◌}
use mathlib.Core.Path.{◌≡◌}
use mathlib.Core.List.{◌++◌}
use lib.ListN.{drop}
use Rattle.words.specs.Splice.{part}
use Rattle.script.specs.Fields.{field_of}
use Rattle.script.proofs.fields.end.Given as goal

abbrev pub invariant-loop-i : goal.invariant-loop-i
invariant-loop-i l = part l.line l.from (l.i - l.from) ++ field_of (drop l.i l.line) 0 ≡ field_of (drop l.from l.line) 0
