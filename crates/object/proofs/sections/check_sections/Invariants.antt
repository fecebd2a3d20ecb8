-- `sections::check_sections` meets its contract: at each turn the scan from section `i` on says what the scan from the first section on says.
use Rattle.std.proofs.Common.{Ok}
use Prim.Native.Nat.{◌-◌}
use mathlib.Core.Path.{◌≡◌}
use Rattle.words.specs.Scan.{scan}
use Rattle.object.specs.Sections.{one_section}
use Rattle.object.proofs.sections.check_sections.Given as goal

abbrev pub invariant-loop-i : goal.invariant-loop-i
invariant-loop-i l = scan (one_section l.size l.fn.table) (Ok tt) 0 l.count ≡ scan (one_section l.size l.fn.table) (Ok tt) l.i (l.count - l.i)
