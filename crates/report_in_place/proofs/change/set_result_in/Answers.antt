-- `change::set_result_in` meets its contract: the payload at the place that was found.
use mathlib.Core.Path.{sym, ap, ◌∙◌}
use lib.ListN.{set}
use Rattle.records.specs.declared.payload.Payload.{Payload}
use Rattle.state.specs.State.{with_result, with_payloads}
use Rattle.state_bytes.specs.Stored.{state_in}
use Rattle.state_bytes.proofs.Laws.{state-length, holds-still}
use Rattle.in_place.proofs.Laws.{holds_as, changed-there, changed-nowhere}
use Rattle.report_in_place.proofs.change.set_result_in.Goals as goal

pub returns-in_default : goal.returns-in_default
returns-in_default c = let b = c.args.b.now in
    let nothing = sym c.with_slot.ensures.0 ∙ c.in_default.is in
    holds_as (holds-still b c.requires.0) (changed-nowhere (with_result c.args.res) (state_in b) c.args.slot nothing)

pub returns : goal.returns
returns c = let s = state_in c.args.b.now in
    let i = c.in-Some.i in
    let change = with_result c.args.res in
    holds_as c.put_payload.ensures
    (ap (λ (p : Payload). with_payloads (set s.payloads i (change p)) s) c.payload-payload.ensures
    ∙ changed-there change s c.args.slot i (sym c.with_slot.ensures.0 ∙ c.in-Some.is))

pub with_slot-requires : goal.with_slot-requires
with_slot-requires c = (state-length _ c.requires.0, c.requires.1)

pub payload-payload-requires : goal.payload-payload-requires
payload-payload-requires c = (state-length _ c.requires.0, c.with_slot.ensures.1 _ c.in-Some.is)

pub put_payload-requires : goal.put_payload-requires
put_payload-requires c = (c.requires.0, c.with_slot.ensures.1 _ c.in-Some.is)
