-- `prepare_payload` meets its contract: a refusal leaves the three buffers, and else each holds what its definition says.
use Rattle.std.proofs.Common.{◌≡◌, ℕ, List, ◌≤◌, Result, Ok, Err, true, refl, sym, ap, ◌∙◌}
use mathlib.Core.Path.{subst⁻¹}
use Rattle.words.proofs.Tests.{held, refuted}
use Rattle.records.specs.Limits.{records_max}
use Rattle.records.specs.Refusal.{refusal_code}
use Rattle.records.specs.Verdict.{refusal, verdict_of}
use Rattle.records.specs.declared.refusal.Reason.TheVariants.{Invalid}
use Rattle.records.specs.declared.refusal.Place.TheVariants.{Nowhere}
use Rattle.records.specs.declared.refusal.Refusal.{Refusal}
use Rattle.encode.specs.Encode.{Fitting}
use Rattle.acceptance.specs.Stages.{Setting, setting, machine_at}
use Rattle.prepare.specs.Prepare.{Outcome, outcome, prepare_rules, accepted_prepared, prepare_of}
use Rattle.prepare.specs.declared.prepare.Prepared.{Prepared}
use Rattle.audit.specs.Preparing.{host_of, ranges_ok, Buffers, buffers, buffers_ok, left, refused_call, call_of, Answers}
use Rattle.audit.proofs.Accepting.{answers}
use Rattle.audit.proofs.Calls.{
  right_call,
  left_by,
  wrong-call,
  wrong-list,
  by-payload,
  prepare-rules,
  outcome-is,
  few-records,
  fitting,
  text-ends,
  sizes-told,
  left-same,
}
use Rattle.audit.proofs.preparing.prepare_payload.Goals as goal
use Rattle.audit.proofs.preparing.prepare_payload.Goals.{Start, After-new-bad, Else-not-buffer_sizes_ok, Else-not-ranges_ok, After-prepare, In-Ok}

abbrev aim : goal.Start → Setting
aim c = setting (host_of c.args.text c.args.size c.args.slot) c.args.list.now

-- the buffers as they were lent
abbrev lent : goal.Start → Buffers
lent c = buffers c.args.image.now c.args.edits.now c.args.summary.now

-- 22, nowhere, with the buffers as they were
invalid :
    (c : goal.After-new-bad) {answer : ℕ} →
    let s = (goal.at.After-new-bad c).Start in
    answer ≡ refusal_code c.new-bad.result →
    call_of (aim s) c.args.file.now (lent s) ≡ refused_call (lent s) (refusal Invalid Nowhere) →
    Answers (aim s) c.args.file.now (lent s) (left answer (lent s))
invalid c told call =
    let s = (goal.at.After-new-bad c).Start in
    answers (aim s) c.args.file.now (lent s)
    (ap (λ (n : ℕ). left n (lent s)) (told ∙ ap refusal_code c.new-bad.ensures) ∙ sym call)

pub returns-then-not-buffer_sizes_ok : goal.returns-then-not-buffer_sizes_ok
returns-then-not-buffer_sizes_ok c =
    invalid (goal.at.returns-then-not-buffer_sizes_ok c).After-new-bad c.code.ensures
    (wrong-call _ _ _ (rw (refuted c.buffer_sizes_ok.ensures c.if-not-buffer_sizes_ok.true)))

-- the buffers have their sizes
sizes : (c : goal.Else-not-buffer_sizes_ok) → buffers_ok (lent (goal.at.Else-not-buffer_sizes_ok c).Start) ≡ true
sizes c = held c.buffer_sizes_ok.ensures c.if-not-buffer_sizes_ok.false

pub returns-then-not-ranges_ok : goal.returns-then-not-ranges_ok
returns-then-not-ranges_ok c =
    let at = goal.at.returns-then-not-ranges_ok c in
    invalid at.After-new-bad c.code-then-not-ranges_ok.ensures
    (wrong-call _ _ _ (rw (sizes at.Else-not-buffer_sizes_ok, refuted c.ranges_ok.ensures c.if-not-ranges_ok.true)))

-- the sizes and the ranges are right
ranges : (c : goal.Else-not-ranges_ok) → ranges_ok (aim (goal.at.Else-not-ranges_ok c).Start).host ≡ true
ranges c = held c.ranges_ok.ensures c.if-not-ranges_ok.false

right : (c : goal.Else-not-ranges_ok) → let s = (goal.at.Else-not-ranges_ok c).Start in right_call (aim s) (lent s) ≡ true
right c = rw (sizes (goal.at.Else-not-ranges_ok c).Else-not-buffer_sizes_ok, ranges c)

pub returns-then-not-is_valid : goal.returns-then-not-is_valid
returns-then-not-is_valid c =
    let at = goal.at.returns-then-not-is_valid c in
    invalid at.After-new-bad c.code-then-not-is_valid.ensures
    (wrong-list _ _ _ (right at.Else-not-ranges_ok) (refuted c.is_valid.ensures c.if-not-is_valid.true))

-- ---- what the preparation answered

prepared :
    (c : goal.After-prepare) →
    let s = (goal.at.After-prepare c).Start in
    outcome c.prepare.result c.prepare.new.image ≡ prepare_of (aim s) c.args.file.now c.args.image.now
prepared c = c.prepare.ensures.equal

-- the call is decided by it
called :
    (c : goal.After-prepare) →
    let s = (goal.at.After-prepare c).Start in
    call_of (aim s) c.args.file.now (lent s) ≡ left_by (aim s) (lent s) c.prepare.result c.prepare.new.image
called c =
    let at = goal.at.After-prepare c in
    by-payload (aim at.Start) (lent at.Start) c.args.file.now (right at.Else-not-ranges_ok)
    (held c.is_valid.ensures c.if-not-is_valid.false) (prepared c)

pub returns-in-Err : goal.returns-in-Err
returns-in-Err c =
    let at = goal.at.returns-in-Err c in
    let kept = ap (λ (o : Outcome). o.image) (outcome-is _ _ _ (prepared at.After-prepare) (ap verdict_of c.in-Err.is)) in
    answers _ _ _ (left-same c.code-in-Err.ensures kept refl refl ∙ sym (called at.After-prepare ∙ rw c.in-Err.is))

-- the payload is accepted
accepted-rules :
    (c : goal.In-Ok) → prepare_rules (aim (goal.at.In-Ok c).Start) c.args.file.now c.args.image.now ≡ Ok tt
accepted-rules c = prepare-rules _ _ _ (prepared (goal.at.In-Ok c).After-prepare) (ap verdict_of c.in-Ok.is)

accepted : (c : goal.In-Ok) → c.in-Ok.prepared ≡ accepted_prepared (aim (goal.at.In-Ok c).Start) c.args.file.now
accepted c =
    let all = ap (λ (o : Outcome). o.answer) (outcome-is _ _ _ (prepared (goal.at.In-Ok c).After-prepare) (ap verdict_of c.in-Ok.is)) in
    let same : ◌≡◌ {A = Result Prepared Refusal} (Ok c.in-Ok.prepared) (Ok (accepted_prepared (aim (goal.at.In-Ok c).Start) c.args.file.now)) =
    sym c.in-Ok.is ∙ all in
    cc

-- the edits are few enough, and fit their entries
abbrev Writable : goal.In-Ok → Prepared → Type 0
Writable c p =
    let t = aim (goal.at.In-Ok c).Start in (p.edit_count ≤ records_max) × Fitting (machine_at t) t.host.text p.edits p.edit_count

can_write : (c : goal.In-Ok) → Writable c c.in-Ok.prepared
can_write c =
    let at = goal.at.In-Ok c in
    subst⁻¹ (Writable c) (accepted c) (
      few-records _ _ _ (accepted-rules c),
      fitting _ _ _ (accepted-rules c) (text-ends (aim at.Start).host (ranges at.Else-not-ranges_ok)),
    )

pub write_edits-requires : goal.write_edits-requires
write_edits-requires c =
    let at = goal.at.write_edits-requires c in
    ((sizes-told _ _ _ (sizes at.Else-not-buffer_sizes_ok)).1, (can_write at.In-Ok).0, (can_write at.In-Ok).1)

pub write_summary-requires : goal.write_summary-requires
write_summary-requires c =
    (sizes-told _ _ _ (sizes (goal.at.write_summary-requires c).Else-not-buffer_sizes_ok)).2

pub returns : goal.returns
returns c =
    let at = goal.at.returns c in
    answers _ _ _ (left-same refl refl c.write_edits.ensures c.write_summary.ensures ∙ sym (called at.After-prepare ∙ rw c.in-Ok.is))
