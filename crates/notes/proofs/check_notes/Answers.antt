-- `check_notes` meets its contract: at each turn the notes from `i` on say what all of them say.
use Prim.Native.Nat.{◌<◌, ◌≤◌}
use mathlib.Core.Path.{sym, ap, ◌∙◌}
use native.Mathlib.Omega.{arith}
use Rattle.std.proofs.lemmas.List.{get_or-take, length-take}
use Rattle.words.proofs.Scan.{begin, turn, end}
use Rattle.words.proofs.Tests.{held, refuted}
use Rattle.object.specs.Sections.{no_entry}
use Rattle.object.specs.declared.sections.SectionEntry.{SectionEntry}
use Rattle.notes.specs.Notes.{note_ok, note_rules}
use Rattle.notes.proofs.check_notes.Goals as goal
use Rattle.notes.proofs.check_notes.Goals.{then-is_note+else-not-note_ok, else-is_note}

pub loop-i-init : goal.loop-i-init
unfolding note_rules
loop-i-init c = begin _ _ _

pub returns-then-not-note_ok : goal.returns-then-not-note_ok
unfolding no_entry
returns-then-not-note_ok c =
    let below : c.loop-i.i < c.args.count = omega (arith, length-take {A = SectionEntry}) in
    let same = get_or-take c.args.count c.args.table c.loop-i.i no_entry below in
    let right-note = c.note_ok.ensures ∙ ap note_ok c.contents_of-note.ensures in
    sym
    (c.loop-i.invariant
    ∙ turn _ _ _ _ below
    ∙ rw (← same, sym c.is_note.ensures ∙ c.if-is_note.true, refuted right-note c.if-not-note_ok.true, c.refused.ensures))

pub loop-i-preserved : goal.loop-i-preserved
unfolding no_entry
loop-i-preserved c =
    let below : c.loop-i.i < c.args.count = omega (arith, length-take {A = SectionEntry}) in
    let same = get_or-take c.args.count c.args.table c.loop-i.i no_entry below in
    let same_kind = sym c.is_note.ensures in
    c.loop-i.invariant
    ∙ turn _ _ _ _ below
    ∙ (elim c.if-is_note.branch [
      | then-is_note+else-not-note_ok w ↦
          rw (← same, same_kind ∙ w.if-is_note.true, held (w.note_ok.ensures ∙ ap note_ok w.contents_of-note.ensures) w.if-not-note_ok.false)
      | else-is_note w ↦ rw (← same, same_kind ∙ w.if-is_note.false)
    ])

pub returns : goal.returns
returns c =
    let past : c.args.count ≤ c.loop-i.i = omega (arith, length-take {A = SectionEntry}) in
    sym (c.loop-i.invariant ∙ end _ _ _ _ past)
