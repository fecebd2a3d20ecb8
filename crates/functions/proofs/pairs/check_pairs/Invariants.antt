-- `check_pairs` meets its contract. Each loop's invariant: the scan from its number on is the scan from 0 on.
use Rattle.std.proofs.Common.{Ok}
use Prim.Native.Nat.{◌-◌}
use mathlib.Core.Path.{◌≡◌}
use mathlib.Core.Bool.{false}
use Rattle.words.specs.Scan.{scan}
use Rattle.functions.specs.Pairs.{touched, one_touch, one_pair}
use Rattle.functions.proofs.pairs.check_pairs.Given as goal

abbrev pub invariant-loop-earlier : goal.invariant-loop-earlier
invariant-loop-earlier l =
    touched l.fn.edits l.later l.j ≡ scan (one_touch l.fn.edits l.later) false l.earlier-index (l.j - l.earlier-index)

abbrev pub invariant-loop-j : goal.invariant-loop-j
invariant-loop-j l = scan (one_pair l.fn.edits) (Ok tt) 0 l.count ≡ scan (one_pair l.fn.edits) (Ok tt) l.j (l.count - l.j)
