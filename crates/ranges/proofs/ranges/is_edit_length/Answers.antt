-- `ranges::is_edit_length` meets its contract: a jump has its one length, and a fill a size that it may have.
use Rattle.ranges.proofs.ranges.is_edit_length.Goals as goal

pub returns-in-Jump : goal.returns-in-Jump
returns-in-Jump c = rw (c.jump_length.ensures.0, c.in-Jump.is)

pub returns-in-Fill : goal.returns-in-Fill
returns-in-Fill c = rw (c.is_fill_size.ensures, c.in-Fill.is)
