-- `read_functions` meets its contract: the table holds the edits of the records gone through, and what the records from there on say
-- is what all of them say.
use Rattle.std.proofs.Common.{Ok}
use Prim.Native.Nat.{◌-◌}
use mathlib.Core.Path.{◌≡◌}
use Rattle.words.specs.Scan.{scan}
use Rattle.functions.specs.Functions.{one_record, edits_of}
use Rattle.functions.specs.Patching.{patching}
use Rattle.functions.proofs.read.read_functions.Given as goal

abbrev pub invariant-loop-r : goal.invariant-loop-r
invariant-loop-r l =
    let p = patching l.host l.placed l.list in
    (l.table ≡ edits_of p l.start l.r) × (scan (one_record p l.start) (Ok tt) 0 l.count ≡ scan (one_record p l.start) (Ok tt) l.r (l.count - l.r))
