-- `check_relocation_headers` meets its contract: at each turn the headers from `i` on say what all of them say.
use Rattle.std.proofs.Common.{Ok}
use Prim.Native.Nat.{◌-◌}
use mathlib.Core.Path.{◌≡◌}
use Rattle.words.specs.Scan.{scan}
use Rattle.payload.specs.RelocationHeaders.{one_relocation_header, relocation_header_rules}
use Rattle.payload.proofs.relocation_headers.check_relocation_headers.Given as goal

abbrev pub invariant-loop-i : goal.invariant-loop-i
invariant-loop-i l =
    relocation_header_rules l.table l.count l.symbols ≡ scan (one_relocation_header l.table l.count l.symbols) (Ok tt) l.i (l.count - l.i)
