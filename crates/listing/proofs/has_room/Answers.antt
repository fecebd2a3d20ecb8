-- `has_room` meets its contract: the first buffer that is too short decides.
use borrow.Author.Tests.{le-leb, lt-leb}
use Rattle.listing.specs.List.{has_room}
use Rattle.listing.proofs.has_room.Goals as goal

pub returns-then-statuses-nr : goal.returns-then-statuses-nr
unfolding has_room
returns-then-statuses-nr c = simp (lt-leb _ _ c.if-statuses-nr.true)

pub returns-then-names-nr : goal.returns-then-names-nr
unfolding has_room
returns-then-names-nr c = simp (le-leb _ _ c.if-statuses-nr.false, lt-leb _ _ c.if-names-nr.true)

pub returns : goal.returns
unfolding has_room
returns c = simp (le-leb _ _ c.if-statuses-nr.false, le-leb _ _ c.if-names-nr.false)
