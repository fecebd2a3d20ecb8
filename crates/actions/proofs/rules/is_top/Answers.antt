-- `rules::is_top` meets its contract: the slot at the stack's end is the payload's.
use Rattle.std.proofs.Common.{arith, le-leb}
use borrow.Author.Tests.{lt-leb}
use Rattle.state.proofs.Whole.{whole}
use Rattle.ranges.proofs.Laws.{InRange, in-range}
use Rattle.actions.proofs.rules.is_top.Goals as goal
use Rattle.actions.proofs.rules.is_top.Goals.{Start}

pub returns-then-state-lt1 : goal.returns-then-state-lt1
returns-then-state-lt1 c = simp (lt-leb _ _ c.if-state-lt1.true)

ranges : (c : goal.Start) → InRange c.args.state
ranges c = in-range (whole c.args.state _ c.well_formed.0) c.requires

pub returns : goal.returns
returns c = simp (le-leb _ _ c.if-state-lt1.false)

pub offset_bounds-state-state : goal.offset_bounds-state-state
offset_bounds-state-state c = omega (arith, (ranges (goal.at.offset_bounds-state-state c).Start).few, (ranges (goal.at.offset_bounds-state-state c).Start).shallow)

pub bounds-state-state : goal.bounds-state-state
bounds-state-state c = omega (arith, (ranges (goal.at.bounds-state-state c).Start).few, (ranges (goal.at.bounds-state-state c).Start).shallow)
