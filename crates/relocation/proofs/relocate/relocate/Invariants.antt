-- `relocate` meets its contract: at each turn the sections from `i` on, over the bytes as they are, give what all of them give.
use Prim.Native.Nat.{◌-◌}
use mathlib.Core.Path.{◌≡◌}
use lib.ListN.{length}
use Rattle.machine.specs.Host.{host_machine}
use Rattle.linking.specs.Kept.{Kept}
use Rattle.relocation.specs.Relocating.{relocate_from, relocate_all, linking_of}
use Rattle.relocation.proofs.relocate.relocate.Given as goal

abbrev pub invariant-loop-i : goal.invariant-loop-i
invariant-loop-i l =
    let k = linking_of l.host l.file l.reading l.list in
    let m = host_machine l.host in
    (length l.image ≡ length l.initial.image)
    × (relocate_all m k l.file l.initial.image ≡ relocate_from m k l.file l.i (l.reading.count - l.i) l.image)
    × Kept k l.cells
