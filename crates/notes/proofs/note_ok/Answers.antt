-- `note_ok` meets its contract: each test is the definition's, at the head that was read.
use borrow.Author.Tests.{le-leb, lt-leb, eq-eqb, ne_eqb}
use Rattle.words.proofs.Tests.{held, refuted}
use Rattle.notes.specs.Notes.{note_ok}
use Rattle.notes.proofs.NoteLaws.{ok-by, all-of-rest}
use Rattle.notes.proofs.note_ok.Goals as goal

pub returns-then-note-lt-NOTE_HEAD_SIZE : goal.returns-then-note-lt-NOTE_HEAD_SIZE
unfolding note_ok
returns-then-note-lt-NOTE_HEAD_SIZE c = simp (lt-leb _ _ c.if-note-lt-NOTE_HEAD_SIZE.true)

pub returns-then-not-note_head_ok : goal.returns-then-not-note_head_ok
returns-then-not-note_head_ok c = rw (ok-by _ c.read_note-head.ensures.value, le-leb _ _ c.if-note-lt-NOTE_HEAD_SIZE.false, refuted c.note_head_ok.ensures c.if-not-note_head_ok.true)

pub returns-then-note-id_length : goal.returns-then-note-id_length
returns-then-note-id_length c = rw (
  ok-by _ c.read_note-head.ensures.value,
  le-leb _ _ c.if-note-lt-NOTE_HEAD_SIZE.false,
  held c.note_head_ok.ensures c.if-not-note_head_ok.false,
  ne_eqb _ _ c.if-note-id_length.true,
)

pub returns : goal.returns
returns c = rw (
  ok-by _ c.read_note-head.ensures.value,
  le-leb _ _ c.if-note-lt-NOTE_HEAD_SIZE.false,
  held c.note_head_ok.ensures c.if-not-note_head_ok.false,
  eq-eqb _ _ c.if-note-id_length.false,
  c.all_zero.ensures,
  all-of-rest,
)
