-- `edits::load_edits` meets its contract: the first `i` elements are the first `i` edits.
use Prim.Native.Nat.{◌+◌, ◌*◌}
use mathlib.Core.Path.{◌≡◌}
use Rattle.words.specs.Scan.{filled}
use Rattle.records.specs.Limits.{records_max}
use Rattle.records.specs.Payload.{no_edit}
use Rattle.state_bytes.specs.Layout.{edit_size}
use Rattle.state_bytes.specs.Stored.{edit_at}
use Rattle.state_bytes.proofs.edits.load_edits.Given as goal

abbrev pub invariant-loop-i : goal.invariant-loop-i
invariant-loop-i l = l.edit-items ≡ filled (λ j. edit_at l.b (l.at + edit_size * j)) no_edit records_max l.i
