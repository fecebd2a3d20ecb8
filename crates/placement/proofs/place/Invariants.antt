-- `place` meets its contract: before each turn the sections before `i` are placed.
use Rattle.placement.proofs.Placing.{Placing}
use Rattle.placement.proofs.place.Given as goal

abbrev pub invariant-loop-i : goal.invariant-loop-i
invariant-loop-i l = Placing l.file l.table l.count l.offsets l.bounds l.image l.end l.i
