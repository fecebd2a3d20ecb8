-- `uploading::upload` meets its contract: each stage is asked of the state in the records, which only the last one writes.
use Rattle.std.proofs.Common.{Ok}
use Prim.Native.Nat.{ℕ}
use mathlib.Core.Path.{◌≡◌, refl}
use mathlib.Core.Bool.{true}
use mathlib.Core.List.{List}
use lib.ListN.{length}
use Rattle.words.proofs.Tests.{held, refuted}
use Rattle.state.specs.State.{called}
use Rattle.state.proofs.Whole.{Whole}
use Rattle.upload_room.specs.Room.{request_rules, room_by}
use Rattle.upload.specs.Upload.{Lent, lent, Request, request, uploaded}
use Rattle.upload.proofs.StageLaws.{refused-request, ready, refused-payload, enterable, accepted}
use Rattle.state_bytes.specs.Stored.{state_in, is_state}
use Rattle.upload_call.specs.Changes.{upload_told}
use Rattle.state_bytes.proofs.Laws.{state-length, whole_in}
use Rattle.calls.proofs.Laws.{told-invalid, refused-told, refused-kept}
use Rattle.upload_call.proofs.UploadLaws.{uploads-told, call-told, refusal-told}
use Rattle.upload_call.proofs.uploading.upload.Goals as goal
use Rattle.upload_call.proofs.uploading.upload.Goals.{Else-not-is_state, After-room_for}

pub returns-then-not-is_state : goal.returns-then-not-is_state
unfolding upload_told
returns-then-not-is_state c =
    let none = refuted c.is_state.ensures c.if-not-is_state.true in
    uploads-told _ _ _ (refused-told _ none _ _ (told-invalid c.new.ensures c.code.ensures)) (refused-kept _ none)

-- the records are a state's
whole : (c : goal.Else-not-is_state) → is_state c.args.records.now ≡ true
whole c = held c.is_state.ensures c.if-not-is_state.false

pub room_for-requires : goal.room_for-requires
room_for-requires c = state-length _ (whole (goal.at.room_for-requires c).Else-not-is_state)

-- the rules up to the slot were asked of that state
module _ (c : goal.After-room_for) where
  abbrev records : List ℕ
  records = c.args.records.now

  abbrev given : Lent
  given = lent c.args.arena.now c.args.ids.now

  abbrev asked : Request
  asked = request c.args.name.now c.args.list.now c.args.file.now

  right : is_state records ≡ true
  right = held c.is_state.ensures c.if-not-is_state.false

  found :
      c.room_for.result
      ≡ room_by (state_in records) (request_rules (state_in records) (length given.arena) (length given.ids) asked.name asked.list)
  found = c.room_for.ensures

  known : Whole (state_in records)
  known = whole_in _ (state-length _ right)

pub returns-in-Err : goal.returns-in-Err
returns-in-Err c =
    let here = (goal.at.returns-in-Err c).After-room_for in
    refusal-told (records here) (given here) (asked here) (given here) _ (right here) c.code-in-Err.ensures
    (refused-request _ (given here) (asked here) (found here) c.in-Err.is)

pub config-config-requires : goal.config-config-requires
config-config-requires c = state-length _ (right (goal.at.config-config-requires c).After-room_for)

pub prepare_in-requires : goal.prepare_in-requires
prepare_in-requires c =
    let here = (goal.at.prepare_in-requires c).After-room_for in
    ready _ (given here) (asked here) (found here) c.in-Ok.is (known here) c.config-config.ensures

-- ---- the payload was prepared for the slot

pub returns-in-Err-prepare_in : goal.returns-in-Err-prepare_in
returns-in-Err-prepare_in c =
    let here = (goal.at.returns-in-Err-prepare_in c).After-room_for in
    refusal-told (records here) (given here) (asked here) (lent _ (given here).ids) _ (right here) c.code-in-Err-prepare_in.ensures
    (refused-payload _ (given here) (asked here) (found here) c.in-Ok.is
    c.config-config.ensures
    c.prepare_in.ensures
    c.in-Err-prepare_in.is)

pub enter-requires : goal.enter-requires
enter-requires c =
    let here = (goal.at.enter-requires c).After-room_for in
    let can =
    enterable _ (given here) (asked here) (found here) c.in-Ok.is
    c.config-config.ensures
    c.prepare_in.ensures
    c.in-Ok-prepare_in.is in
    record { b_value = (right here, can.0.0, can.0.1, can.0.2); name_len_bound = can.1 }

pub returns : goal.returns
returns c =
    let here = (goal.at.returns c).After-room_for in
    call-told (records here) (given here) (asked here) (uploaded (called (Ok tt) _) (lent _ _)) (right here) refl c.enter.ensures.holds_state
    (accepted _ (given here) (asked here) (found here) c.in-Ok.is
    c.config-config.ensures
    c.prepare_in.ensures
    c.in-Ok-prepare_in.is
    refl
    c.enter.ensures.ids_after)
