-- `uploading::room_for` meets its contract: the sizes, then the rules after them.
use Rattle.std.proofs.Common.{◌≡◌, true}
use Rattle.words.proofs.Tests.{held, refuted}
use Rattle.ranges.specs.Ranges.{in_range}
use Rattle.state_bytes.specs.Stored.{state_in}
use Rattle.upload_room.specs.Room.{upload_sizes_ok, request_rules}
use Rattle.upload_room.proofs.Laws.{sizes-told}
use Rattle.in_place.proofs.Laws.{ranges-of}
use Rattle.upload_in_place.proofs.uploading.room_for.Goals as goal
use Rattle.upload_in_place.proofs.uploading.room_for.Goals.{Else-not-sizes_ok}

pub in_range-requires : goal.in_range-requires
in_range-requires c = c.requires

pub returns-then-not-sizes_ok : goal.returns-then-not-sizes_ok
unfolding request_rules
returns-then-not-sizes_ok c = rw (refuted (c.sizes_ok.ensures _ c.in_range.ensures) c.if-not-sizes_ok.true) c.refused.ensures

-- the sizes are right
module _ (c : goal.Else-not-sizes_ok) where
  sizes : upload_sizes_ok (state_in c.args.b.now) c.args.arena c.args.ids ≡ true
  sizes = held (c.sizes_ok.ensures _ c.in_range.ensures) c.if-not-sizes_ok.false

  known : in_range (state_in c.args.b.now) ≡ true
  known = (sizes-told _ _ _ sizes).0

pub with_name-loaded-requires : goal.with_name-loaded-requires
with_name-loaded-requires c = (c.requires, known (goal.at.with_name-loaded-requires c).Else-not-sizes_ok)

pub outline-requires : goal.outline-requires
outline-requires c =
    (c.requires, (ranges-of _ c.requires (known (goal.at.outline-requires c).Else-not-sizes_ok)).few)

pub returns : goal.returns
unfolding request_rules
returns c =
    rw (sizes (goal.at.returns c).Else-not-sizes_ok)
    (c.find_room.ensures _ c.with_name-loaded.ensures (c.free_slot-free.ensures _ c.outline.ensures))
