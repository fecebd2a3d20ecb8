-- `read_note` meets its contract.
use borrow.Author.Rules.{rules}
use Rattle.elf.specs.Layout.{note_of}
use Rattle.elf.proofs.read_note.Goals as goal

pub returns : goal.returns
unfolding note_of
returns c = record { value = cc; note_ranges = search rules }
