-- `id_in` meets its contract.
use mathlib.Core.Path.{◌≡◌, ap}
use native.Mathlib.Nat.{add-sub_cancel_left}
use native.Mathlib.Omega.{arith}
use lib.ListN.{length-take}
use Rattle.words.specs.Splice.{part}
use Rattle.elf.specs.declared.Note.{Note}
use Rattle.notes.specs.Notes.{id_length}
use Rattle.notes.proofs.NoteLaws.{id-by, note-ok-length}
use Rattle.notes.proofs.id_in.Goals as goal
use Rattle.notes.proofs.id_in.Goals.{After-read_note-head}

pub read_note-head-requires : goal.read_note-head-requires
read_note-head-requires c = omega (arith, note-ok-length _ c.requires)

-- the length that was read is that of the note's id
length-read : (c : goal.After-read_note-head) → c.read_note-head.result.n_descsz ≡ id_length c.args.note.now
length-read c = ap (λ (h : Note). h.n_descsz) c.read_note-head.ensures.value

pub slice_bounds-copy-end-2 : goal.slice_bounds-copy-end-2
slice_bounds-copy-end-2 c = omega (arith, note-ok-length _ c.requires, length-read (goal.at.slice_bounds-copy-end-2 c).After-read_note-head)

pub copy-requires : goal.copy-requires
copy-requires c = rw length-take (omega (arith, note-ok-length _ c.requires, length-read (goal.at.copy-requires c).After-read_note-head))

pub returns : goal.returns
unfolding part
returns c = rw (id-by _ c.read_note-head.ensures.value, c.copy.ensures, add-sub_cancel_left)
