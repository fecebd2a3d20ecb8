-- `uploading::append` meets its contract: the record, the number of payloads and the version are put one after the other.
use Rattle.std.proofs.Common.{◌≡◌, ◌+◌, set, ap, ◌∙◌, arith}
use Rattle.state.specs.State.{with_payloads, with_count, with_version}
use Rattle.state.specs.declared.state.State.{State}
use Rattle.state_bytes.specs.Stored.{state_in}
use Rattle.state_bytes.proofs.Laws.{state-length}
use Rattle.upload_record.specs.Record.{with_uploaded}
use Rattle.in_place.proofs.Laws.{holds_as}
use Rattle.upload_in_place.proofs.uploading.append.Goals as goal

pub returns : goal.returns
returns c = let s = state_in c.args.b.now in
    let n = c.count-count.result in
    let v = c.wrapping_add_u32.result in
    let p = c.args.payload in
    let told : with_version v (with_count (n + 1) (with_payloads (set s.payloads n p) s)) ≡ with_uploaded s p =
    rw (c.wrapping_add_u32.ensures.value, c.version-version.ensures, c.count-count.ensures) in
    holds_as c.put_version.ensures
    (ap (λ (x : State). with_version v x) c.put_count.ensures.read
    ∙ ap (λ (x : State). with_version v (with_count (n + 1) x)) c.put_payload.ensures.read
    ∙ told)

pub count-count-requires : goal.count-count-requires
count-count-requires c = state-length _ c.requires.0

pub version-version-requires : goal.version-version-requires
version-version-requires c = state-length _ c.requires.0

pub put_payload-requires : goal.put_payload-requires
put_payload-requires c = (c.requires.0, omega (arith, c.count-count.ensures, c.requires.1))

pub overflow_add-count : goal.overflow_add-count
overflow_add-count c = omega (arith, c.count-count.ensures, c.requires.1)

pub put_count-requires : goal.put_count-requires
put_count-requires c = c.put_payload.ensures.whole

pub put_version-requires : goal.put_version-requires
put_version-requires c = c.put_count.ensures.whole
