-- `upload::upload` meets its contract: the first stage that refuses is the answer and changes nothing; else the payload is in its slot and in the list.
use mathlib.Core.Path.{refl}
use native.Mathlib.Omega.{arith}
use Rattle.state.proofs.Whole.{whole}
use Rattle.upload.specs.Upload.{Lent, lent, Request, request}
use Rattle.upload.proofs.Accepting.{uploads}
use Rattle.upload.proofs.StageLaws.{refused-request, ready, refused-payload, enterable, accepted}
use Rattle.upload.proofs.upload.upload.Goals as goal
use Rattle.upload.proofs.upload.upload.Goals.{After-room_for}

-- what the call was lent and asked
module _ (c : goal.After-room_for) where
  abbrev given : Lent
  given = lent c.args.arena.now c.args.ids.now

  abbrev asked : Request
  asked = request c.args.name.now c.args.list.now c.args.file.now

pub returns-in-Err : goal.returns-in-Err
returns-in-Err c =
    let here = (goal.at.returns-in-Err c).After-room_for in
    uploads _ _ _ (refused-request _ (given here) (asked here) c.room_for.ensures c.in-Err.is)

pub prepare_in-requires : goal.prepare_in-requires
prepare_in-requires c =
    let here = (goal.at.prepare_in-requires c).After-room_for in
    let can =
    ready _ (given here) (asked here) c.room_for.ensures c.in-Ok.is (whole c.args.state _ c.well_formed.0) refl in
    (can.0, omega (arith, can.1), can.2)

-- ---- the payload was prepared for the slot

pub returns-in-Err-prepare_in : goal.returns-in-Err-prepare_in
returns-in-Err-prepare_in c =
    let here = (goal.at.returns-in-Err-prepare_in c).After-room_for in
    uploads _ _ _
    (refused-payload _ (given here) (asked here) c.room_for.ensures c.in-Ok.is refl c.prepare_in.ensures
    c.in-Err-prepare_in.is)

pub enter-next-requires : goal.enter-next-requires
enter-next-requires c =
    let here = (goal.at.enter-next-requires c).After-room_for in
    let can =
    enterable _ (given here) (asked here) c.room_for.ensures c.in-Ok.is refl c.prepare_in.ensures
    c.in-Ok-prepare_in.is in
    record { count_lt_slot_count = (can.0.0, omega (arith, can.0.1), can.0.2); name_len_bound = can.1 }

pub returns : goal.returns
returns c =
    let here = (goal.at.returns c).After-room_for in
    uploads _ _ _
    (accepted _ (given here) (asked here) c.room_for.ensures c.in-Ok.is refl c.prepare_in.ensures
    c.in-Ok-prepare_in.is
    c.enter-next.ensures.value
    c.enter-next.ensures.ids_after)
