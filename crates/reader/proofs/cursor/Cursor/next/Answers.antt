-- `Cursor::next` meets its contract.
use borrow.Author.Tests.{lt-ltb, le-ltb}
use Rattle.reader.specs.Entries.{next_of}
use Rattle.reader.proofs.cursor.Cursor.next.Goals as goal

pub returns-then-entries-e : goal.returns-then-entries-e
unfolding next_of
returns-then-entries-e c = rw (le-ltb _ _ c.if-entries-e.true)

pub returns : goal.returns
unfolding next_of
returns c = rw (lt-ltb _ _ c.if-entries-e.false, c.read_relocation-r.ensures.value)
