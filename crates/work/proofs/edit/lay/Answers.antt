-- `edit::lay` meets its contract: the covered bytes into the zeroed record, and the edit's over the text.
use Prim.Native.Nat.{ℕ, ◌+◌, ◌-◌, ◌≤◌}
use mathlib.Core.Path.{ap, ◌∙◌}
use mathlib.Core.List.{List}
use native.Mathlib.Omega.{arith}
use lib.ListN.{length, take, drop, replicate}
use Rattle.words.specs.Splice.{part, splice}
use Rattle.words.proofs.Splice.{length_part}
use Rattle.machine.specs.Machine.{edit_max}
use Rattle.work.specs.Work.{undo_record, laid}
use Rattle.work.proofs.EditLaws.{lent_same, lent-part, record-saved}
use Rattle.work.proofs.edit.lay.Goals as goal

pub returns : goal.returns
unfolding laid
returns c = let at = c.undo_at-at.result in
    let edit = c.args.step.edit in
    let text = c.args.text.now in
    let undo = c.args.undo.now in
    let covered = part text edit.offset edit.length in
    let lent = take (edit.offset + edit.length - edit.offset) (drop edit.offset text) in
    let room : at + edit_max ≤ length undo = omega (arith, c.undo_at-at.ensures) in
    let short : length covered ≤ edit_max = rw (length_part text edit.offset edit.length c.requires.inside) c.requires.short in
    lent_same
    c.write_edit.ensures
    (c.copy.ensures
    ∙ ap (λ (u : List ℕ). splice u at lent) c.fill.ensures
    ∙ ap (λ (bytes : List ℕ). splice (splice undo at (replicate edit_max 0)) at bytes) (lent-part text edit.offset edit.length)
    ∙ record-saved undo at covered room short
    ∙ ap (λ (i : ℕ). splice undo i (undo_record covered)) c.undo_at-at.ensures)
