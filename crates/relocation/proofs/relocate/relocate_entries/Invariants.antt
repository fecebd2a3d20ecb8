-- `relocate_entries` meets its contract: at each turn the entries from the cursor on, over the bytes as they are, give what all of them give.
use Prim.Native.Nat.{◌-◌, ◌≤◌}
use mathlib.Core.Path.{◌≡◌}
use lib.ListN.{length}
use Rattle.records.specs.Limits.{placed_max}
use Rattle.machine.specs.Host.{host_machine}
use Rattle.linking.specs.Kept.{Kept}
use Rattle.linking.specs.Linking.{Linking}
use Rattle.reader.specs.Entries.{relocation_count}
use Rattle.relocation.specs.Relocating.{relocate_entries, Given}
use Rattle.relocation.proofs.relocate.relocate_entries.Given as goal

abbrev pub invariant-loop-r : goal.invariant-loop-r
invariant-loop-r l =
    let from = relocate_entries (host_machine l.host) in
    let n = relocation_count l.entries in
    (l.cursor.entry ≤ n)
    × (length l.image ≡ placed_max)
    × (length l.cells ≡ length l.initial.cells)
    × ((k : Linking) → Given k l.host l.initial.cells l.strings l.list →
    (from k l.area l.entries 0 n l.initial.image ≡ from k l.area l.entries l.cursor.entry (n - l.cursor.entry) l.image)
    × Kept k l.cells)

abbrev pub decreases-loop-r : goal.decreases-loop-r
decreases-loop-r l = relocation_count l.entries - l.cursor.entry
