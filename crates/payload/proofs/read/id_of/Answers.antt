-- `read::id_of` meets its contract: the one note of its kind is right.
use Rattle.object.specs.Sections.{no_entry}
use Rattle.payload.proofs.ReadingLaws.{note-found}
use Rattle.payload.proofs.read.id_of.Goals as goal

pub id_in-requires : goal.id_in-requires
unfolding no_entry
id_in-requires c = let a = c.args in
    let p = c.requires in
    rw (c.contents_of.ensures, c.index_of-i.ensures.0) (note-found a.file.now a.table a.count a.kind p.1 p.2)

pub returns : goal.returns
unfolding no_entry
returns c = rw (← c.index_of-i.ensures.0, ← c.contents_of.ensures) c.id_in.ensures
