-- `prepare::prepare` meets its contract: the first stage that refuses is the answer and leaves the image; else the image is what was built.
use Rattle.std.proofs.Common.{◌≡◌, ℕ, List, Result, Ok, Err, true, false, length, refl, sym, ap, ◌∙◌, arith}
use Rattle.std.proofs.lemmas.Result.{err_from_is_err_and}
use borrow.Author.Tests.{eq-eqb, ne_eqb, le-leb, lt-leb}
use Rattle.words.proofs.Splice.{splice-whole}
use Rattle.records.specs.declared.refusal.Refusal.{Refusal}
use Rattle.machine.specs.Host.{host_machine}
use Rattle.placement.proofs.PlacementLaws.{no_bytes-zeros}
use Rattle.acceptance.specs.Stages.{Setting, setting}
use Rattle.prepare.specs.Prepare.{Ready, BuiltSlot, built_slot, outcome, sizes_ok, built_of, prepare_of, Prepares}
use Rattle.prepare.specs.declared.prepare.Prepared.{Prepared}
use Rattle.prepare.proofs.BuildLaws.{length-built}
use Rattle.prepare.proofs.FaithfulLaws.{prepares}
use Rattle.prepare.proofs.OutcomeLaws.{read-refuses, is-ready, build-told, built-all, prepared-by, accepted}
use Rattle.prepare.proofs.prepare.prepare.Goals as goal
use Rattle.prepare.proofs.prepare.prepare.Goals.{Else-host-gt-TEXT_MAX, In_ok-reading, In_ok-built}

-- an answer that refuses, with the slot as it was
refused :
    (aim : Setting) (file slot : List ℕ) {r : Refusal} {x : Result Prepared Refusal} → x ≡ Err r →
    prepare_of aim file slot ≡ outcome (Err r) slot → Prepares aim file slot (outcome x slot)
refused aim file slot e f = prepares aim file slot (ap (λ (x : Result Prepared Refusal). outcome x slot) e ∙ sym f)

pub returns-then-image-ne-PLACED_MAX : goal.returns-then-image-ne-PLACED_MAX
returns-then-image-ne-PLACED_MAX c =
    refused _ _ _ c.refused.ensures (prepared-by _ _ _ {sizes = false} (rw (ne_eqb _ _ c.if-image-ne-PLACED_MAX.true)) refl refl)

pub returns-then-host-gt-TEXT_MAX : goal.returns-then-host-gt-TEXT_MAX
returns-then-host-gt-TEXT_MAX c =
    refused _ _ _ c.refused-then-host-gt-TEXT_MAX.ensures
    (prepared-by _ _ _ {sizes = false}
    (rw (eq-eqb _ _ c.if-image-ne-PLACED_MAX.false, lt-leb _ _ c.if-host-gt-TEXT_MAX.true)) refl refl)

-- ---- the sizes are right

sizes : (c : goal.Else-host-gt-TEXT_MAX) → sizes_ok (setting c.args.host c.args.list.now) c.args.image.now ≡ true
sizes c = rw (eq-eqb _ _ c.if-image-ne-PLACED_MAX.false, le-leb _ _ c.if-host-gt-TEXT_MAX.false)

pub returns-in_err-reading : goal.returns-in_err-reading
returns-in_err-reading c =
    let p = err_from_is_err_and c.from_residual.result c.from_residual.ensures.1 in
    refused _ _ _ (p.1 ∙ ap Err p.2)
    (prepared-by _ _ _ (sizes (goal.at.returns-in_err-reading c).Else-host-gt-TEXT_MAX) (read-refuses _ _ c.read.ensures c.in_err-reading.was) refl)

-- ---- the file is read

ready : (c : goal.In_ok-reading) → Ready (host_machine c.args.host) c.args.file.now c.in_ok-reading.reading
ready c = is-ready _ _ c.read.ensures c.in_ok-reading.was

pub build-requires : goal.build-requires
build-requires c =
    (ready (goal.at.build-requires c).In_ok-reading, omega (arith, c.if-host-gt-TEXT_MAX.false), no_bytes-zeros)

pub returns-in_err-built : goal.returns-in_err-built
returns-in_err-built c =
    let at = goal.at.returns-in_err-built c in
    let p = err_from_is_err_and c.from_residual-in_err-built.result c.from_residual-in_err-built.ensures.1 in
    let told = build-told _ _ (rw c.in_err-built.was at c.build.ensures) refl in
    refused _ _ _ (p.1 ∙ ap Err p.2) (prepared-by _ _ _ (sizes at.Else-host-gt-TEXT_MAX) (ready at.In_ok-reading).passes told)

-- ---- all is built

built : (c : goal.In_ok-built) → let a = c.args in built_slot (Ok c.in_ok-built.built) c.build.new.image ≡ built_of (setting a.host a.list.now) a.file.now
built c = rw c.in_ok-built.was at c.build.ensures

slot-length : (c : goal.In_ok-built) → length c.build.new.image ≡ length c.args.image.now
slot-length c =
    let passes = (ready (goal.at.In_ok-built c).In_ok-reading).passes in
    ap (λ (x : BuiltSlot). length x.image) (built-all _ _ (built c) refl)
    ∙ length-built (setting c.args.host c.args.list.now) c.args.file.now passes (build-told _ _ (built c) refl)
    ∙ sym c.if-image-ne-PLACED_MAX.false

pub copy-requires : goal.copy-requires
copy-requires c = omega (arith, slot-length (goal.at.copy-requires c).In_ok-built)

pub returns : goal.returns
returns c =
    let at = goal.at.returns c in
    let t = setting c.args.host c.args.list.now in
    let made = built at.In_ok-built in
    let length_is = slot-length at.In_ok-built in
    prepares _ _ _
    (accepted t c.args.file.now c.args.image.now (ready at.In_ok-reading).read (built-all _ _ made refl)
    (c.copy.ensures ∙ splice-whole c.args.image.now _ length_is)
    ∙ sym (prepared-by _ _ _ (sizes at.Else-host-gt-TEXT_MAX) (ready at.In_ok-reading).passes (build-told _ _ made refl)))
