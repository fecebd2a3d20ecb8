-- `room::room_for` meets its contract: the sizes, then the rules after them.
use mathlib.Core.Path.{◌≡◌}
use mathlib.Core.Bool.{true}
use native.Mathlib.Omega.{arith}
use Rattle.words.proofs.Tests.{held, refuted}
use Rattle.state.proofs.Whole.{whole}
use Rattle.ranges.specs.Ranges.{in_range}
use Rattle.ranges.proofs.Laws.{InRange, in-range}
use Rattle.upload_room.specs.Room.{upload_sizes_ok, request_rules}
use Rattle.upload_room.proofs.Laws.{sizes-told}
use Rattle.upload_room.proofs.room.room_for.Goals as goal
use Rattle.upload_room.proofs.room.room_for.Goals.{Else-not-sizes_ok}

pub returns-then-not-sizes_ok : goal.returns-then-not-sizes_ok
unfolding request_rules
returns-then-not-sizes_ok c = rw (refuted (c.sizes_ok.ensures _ c.in_range.ensures) c.if-not-sizes_ok.true) c.refused.ensures

-- the sizes are right
module _ (c : goal.Else-not-sizes_ok) where
  sizes : upload_sizes_ok c.args.state c.args.arena c.args.ids ≡ true
  sizes = held (c.sizes_ok.ensures _ c.in_range.ensures) c.if-not-sizes_ok.false

  known : in_range c.args.state ≡ true
  known = (sizes-told _ _ _ sizes).0

  ranges : InRange c.args.state
  ranges = in-range (whole c.args.state _ c.well_formed.0) known

pub with_name-loaded-requires : goal.with_name-loaded-requires
with_name-loaded-requires c = known (goal.at.with_name-loaded-requires c).Else-not-sizes_ok

pub outline_of-requires : goal.outline_of-requires
outline_of-requires c = omega (arith, (ranges (goal.at.outline_of-requires c).Else-not-sizes_ok).few)

pub returns : goal.returns
unfolding request_rules
returns c =
    rw (sizes (goal.at.returns c).Else-not-sizes_ok)
    (c.find_room.ensures _ c.with_name-loaded.ensures (c.free_slot-free.ensures _ c.outline_of.ensures))
