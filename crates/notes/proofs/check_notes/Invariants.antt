-- `check_notes` meets its contract: at each turn the notes from `i` on say what all of them say.
use Rattle.std.proofs.Common.{Ok}
use Prim.Native.Nat.{◌-◌}
use mathlib.Core.Path.{◌≡◌}
use Rattle.words.specs.Scan.{scan}
use Rattle.notes.specs.Notes.{one_note, note_rules}
use Rattle.notes.proofs.check_notes.Given as goal

abbrev pub invariant-loop-i : goal.invariant-loop-i
invariant-loop-i l = note_rules l.file l.fn.table l.count ≡ scan (one_note l.file l.fn.table) (Ok tt) l.i (l.count - l.i)
