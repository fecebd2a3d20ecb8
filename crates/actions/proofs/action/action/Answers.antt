-- `action::action` meets its contract: each stage that refuses leaves what the definition says, and else the action is done.
use Rattle.records.specs.Refusal.{Verdict}
use Rattle.std.proofs.Common.{◌≡◌, ℕ, ◌<◌, Bool, true, List, length, get_or, sym, ap, ◌∙◌, arith, eq-eqb, ne_eqb, Some, Ok, Err}
use Rattle.records.specs.Verdict.{decide}
use Rattle.records.specs.declared.payload.Payload.{Payload}
use Rattle.memory.specs.Memory.{slot_count}
use Rattle.state.specs.Change.{changed_at}
use Rattle.state.specs.Find.{with_name, payload_at}
use Rattle.state.specs.State.{called, with_result}
use Rattle.state.specs.declared.state.Called.{Called}
use Rattle.state.specs.declared.state.State.{State}
use Rattle.state.proofs.Whole.{Whole, no_copy, whole, copied-payload}
use Rattle.ranges.proofs.Laws.{InRange, in-range}
use Rattle.actions.specs.Actions.{Lent, lent, Request, request, condition_rules, job_for, unloaded_at, cleared, acted, action_of}
use Rattle.actions.proofs.ActionLaws.{Sized, sizes-told, acted-same, begun-same, refused_at, done_at, sizes_right, wrong-sizes, wrong-request, by-conditions}
use Rattle.actions.proofs.TargetLaws.{name-hit, target-refused, target-right, target-place}
use Rattle.actions.proofs.action.action.Goals as goal
use Rattle.actions.proofs.action.action.Goals.{Start, After-sizes_ok, Else-not-sizes_ok, In-Ok, After-check_conditions-verdict, After-clear}

module _ (c : goal.Start) where
  abbrev state : State
  state = c.args.state

  abbrev build_id : List ℕ
  build_id = c.args.build_id.now

  -- arena and stores as they were
  abbrev memory : Lent
  memory = lent c.args.arena.now c.args.undo.now c.args.ids.now

  abbrev asked : Request
  asked = request c.args.name.now c.args.command c.args.time

-- the sizes were looked at
module _ (c : goal.After-sizes_ok) where
  abbrev begun : goal.Start
  begun = (goal.at.After-sizes_ok c).Start

  answered : {b : Bool} → c.sizes_ok.result ≡ b → sizes_right (state begun) (build_id begun) (memory begun) (asked begun) ≡ b
  answered e = sym c.sizes_ok.ensures ∙ e

pub returns-then-not-sizes_ok : goal.returns-then-not-sizes_ok
returns-then-not-sizes_ok c = let here = (goal.at.returns-then-not-sizes_ok c).After-sizes_ok in
    let start = begun here in
    ap (λ (r : Called). acted r (memory start)) c.refused.ensures
    ∙ sym (wrong-sizes _ _ (memory start) (asked start) (answered here c.if-not-sizes_ok.true))

-- sizes and numbers are right
module _ (c : goal.Else-not-sizes_ok) where
  abbrev start : goal.Start
  start = (goal.at.Else-not-sizes_ok c).Start

  right : sizes_right (state start) (build_id start) (memory start) (asked start) ≡ true
  right = answered (goal.at.Else-not-sizes_ok c).After-sizes_ok c.if-not-sizes_ok.false

  sized : Sized (state start) (length (memory start).arena) (length (memory start).undo) (length (memory start).ids)
  sized = sizes-told (state start) _ _ _ _ right

  kept : Whole (state start)
  kept = whole (state start) _ c.well_formed.0

  ranges : InRange (state start)
  ranges = in-range kept sized.ranges

pub find_target-requires : goal.find_target-requires
find_target-requires c = (sized c).ranges

pub returns-in-Err : goal.returns-in-Err
returns-in-Err c = let here = (goal.at.returns-in-Err c).Else-not-sizes_ok in
    let from = start here in
    sym
    (wrong-request (state from) _ (memory from) (asked from) (right here)
    (target-refused (state from) _ _ c.find_target.ensures c.in-Err.is))

-- the payload is found
module _ (c : goal.In-Ok) where
  abbrev sizing : goal.Else-not-sizes_ok
  sizing = (goal.at.In-Ok c).Else-not-sizes_ok

  abbrev place : ℕ
  place = c.in-Ok.i

  found : with_name (state (start sizing)) (asked (start sizing)).name ≡ Some place
  found = target-place (state (start sizing)) _ _ c.find_target.ensures c.in-Ok.is

  counted : place < (state (start sizing)).count
  counted = name-hit (state (start sizing)) _ _ found

  inside : place < slot_count
  inside = omega (arith, counted, (ranges sizing).few)

  copied : get_or (state (start sizing)).payloads place no_copy ≡ payload_at (state (start sizing)) place
  copied = copied-payload (kept sizing) place inside

pub offset_bounds-state-i : goal.offset_bounds-state-i
offset_bounds-state-i c = omega (arith, inside c)

pub bounds-state-i : goal.bounds-state-i
bounds-state-i c = omega (arith, inside c)

pub check_conditions-verdict-requires : goal.check_conditions-verdict-requires
check_conditions-verdict-requires c = let at = (goal.at.check_conditions-verdict-requires c).In-Ok in (
  (sized (sizing at)).ranges,
  (sized (sizing at)).ids_size,
  rw (copied at) ((ranges (sizing at)).payloads (place at) (counted at)).dependency_max,
)

-- its status and the stack were looked at
module _ (c : goal.After-check_conditions-verdict) where
  abbrev at : goal.In-Ok
  at = (goal.at.After-check_conditions-verdict c).In-Ok

  abbrev from : goal.Start
  from = start (sizing at)

  -- the action is decided by the verdict
  decided :
      {v : Verdict} → c.check_conditions-verdict.result ≡ v →
      action_of (state from) (build_id from) (memory from) (asked from)
      ≡ decide (refused_at (state from) (memory from) (place at)) (done_at (state from) (memory from) (asked from) (place at)) v
  decided told =
      by-conditions (state from) (build_id from) (memory from) (asked from) (right (sizing at))
      (target-right (state from) _ _ c.find_target.ensures c.in-Ok.is)
      (found at)
      (ap (condition_rules (state from) (build_id from) (memory from).ids (asked from).command) (sym (copied at))
      ∙ sym c.check_conditions-verdict.ensures ∙ told)

pub set_result-told-requires : goal.set_result-told-requires
set_result-told-requires c = inside (goal.at.set_result-told-requires c).In-Ok

pub returns-in-Err-verdict : goal.returns-in-Err-verdict
returns-in-Err-verdict c = let here = (goal.at.returns-in-Err-verdict c).After-check_conditions-verdict in
    let result = c.set_result-told.ensures ∙ ap (λ (n : ℕ). changed_at (with_result n) (state (from here)) (place (at here))) c.number.ensures.0 in
    ap (λ (s : State). acted (called (Err c.in-Err-verdict.r) s) (memory (from here))) result
    ∙ sym (decided here c.in-Err-verdict.is)

pub clear-requires : goal.clear-requires
clear-requires c = let found = (goal.at.clear-requires c).In-Ok in
    let sizes = sized (sizing found) in (
      rw (copied found) ((ranges (sizing found)).payloads (place found) (counted found)).slot,
      sizes.arena_size,
      sizes.undo_size,
      sizes.ids_size,
    )

pub unloaded-rest-requires : goal.unloaded-rest-requires
unloaded-rest-requires c = let found = (goal.at.unloaded-rest-requires c).In-Ok in
    (counted found, (ranges (sizing found)).few)

-- slot and store entries are zeroed
module _ (c : goal.After-clear) where
  abbrev looked : goal.After-check_conditions-verdict
  looked = (goal.at.After-clear c).After-check_conditions-verdict

  abbrev after : Lent
  after = lent c.clear.new.arena c.clear.new.undo c.clear.new.ids

  zeroed : after ≡ cleared (payload_at (state (from looked)) (place (at looked))).slot (memory (from looked))
  zeroed = c.clear.ensures ∙ ap (λ (p : Payload). cleared p.slot (memory (from looked))) (copied (at looked))

pub returns-then-command-eq-UNLOAD : goal.returns-then-command-eq-UNLOAD
returns-then-command-eq-UNLOAD c = let here = (goal.at.returns-then-command-eq-UNLOAD c).After-clear in
    let rest = unloaded_at (state (from (looked here))) (Some (place (at (looked here)))) in
    acted-same {r = called (Ok tt) c.unloaded-rest.result} {q = called (Ok tt) rest} {a = after here}
    (ap (called (Ok tt)) c.unloaded-rest.ensures)
    (zeroed here)
    ∙ sym (decided (looked here) c.in_default.is ∙ rw (eq-eqb _ _ c.if-command-eq-UNLOAD.true))

pub set_result-next-requires : goal.set_result-next-requires
set_result-next-requires c = inside (goal.at.set_result-next-requires c).In-Ok

pub returns : goal.returns
returns c = let here = (goal.at.returns c).After-check_conditions-verdict in
    let slot = ap (λ (p : Payload). p.slot) (copied (at here)) in
    let job = c.job_for-next.ensures ∙ ap (λ (n : ℕ). job_for (asked (from here)).command n (asked (from here)).time) slot in
    ap (λ (s : State). acted (called (Ok tt) s) (memory (from here))) (begun-same job c.set_result-next.ensures)
    ∙ sym (decided here c.in_default.is ∙ rw (ne_eqb _ _ c.if-command-eq-UNLOAD.false))
