-- `end::take_down` meets its contract: the payloads before `i` have status 1.
use Prim.Native.Nat.{◌<◌}
use mathlib.Core.Path.{◌≡◌, sym, ap, ◌∙◌}
use mathlib.Core.List.{List}
use native.Mathlib.Numerals.{add-one}
use native.Mathlib.Omega.{arith}
use borrow.Author.Tests.{eq-eqb, ne_eqb}
use lib.ListN.{length}
use Rattle.records.specs.Payload.{empty}
use Rattle.records.specs.declared.payload.Payload.{Payload}
use Rattle.memory.specs.Memory.{slot_count}
use Rattle.state.specs.Change.{changed_at}
use Rattle.state.specs.State.{replace, checked, with_status, with_payloads}
use Rattle.state.specs.declared.state.Job.{Job}
use Rattle.state.specs.declared.state.State.{State}
use Rattle.state_bytes.specs.Stored.{state_in}
use Rattle.state_bytes.proofs.Laws.{state-length, holds-still, whole_in}
use Rattle.steps.specs.Next.{all_checked}
use Rattle.steps.proofs.EndLaws.{first-turn}
use Rattle.in_place.proofs.Laws.{holds_as}
use Rattle.work_in_place.proofs.end.take_down.Goals as goal
use Rattle.work_in_place.proofs.end.take_down.Goals.{In-loop-i}

pub returns-then-job-ne-REPLACE : goal.returns-then-job-ne-REPLACE
returns-then-job-ne-REPLACE c = let b = c.args.b.now in
    let other : (state_in b).job.action ≡ replace → ⊥ = λ e. c.if-job-ne-REPLACE.true (ap (λ (j : Job). j.action) c.job-job.ensures ∙ e) in
    holds_as (holds-still b c.requires.0) (rw (ne_eqb _ _ other))

pub loop-i-init : goal.loop-i-init
loop-i-init c = holds-still _ c.requires.0

-- payload `i` is loaded
inside : (c : goal.In-loop-i) → c.loop-i.i < slot_count
inside c = omega (arith, c.loop-i-test.true, c.count-count.ensures, c.requires.1)

pub loop-i-preserved : goal.loop-i-preserved
loop-i-preserved c = let b = c.args.b.now in
    let s = state_in b in
    let i = c.loop-i.i in
    let there : i < length s.payloads = omega (arith, inside (goal.at.loop-i-preserved c).In-loop-i, (whole_in b (state-length b c.requires.0)).payloads) in
    holds_as c.set_status.ensures
    (ap (λ (t : State). changed_at (with_status checked) t i) c.loop-i.invariant.read
    ∙ rw (add-one i) (ap (λ (ps : List Payload). with_payloads ps s) (first-turn (with_status checked) s.payloads i empty there)))

pub returns : goal.returns
unfolding all_checked
returns c = let s = state_in c.args.b.now in
    let l = c.loop-i in
    let all : l.i ≡ s.count = omega (arith, c.loop-i-test.false, c.count-count.ensures) in
    let replaces : s.job.action ≡ replace = ap (λ (j : Job). j.action) (sym c.job-job.ensures) ∙ c.if-job-ne-REPLACE.false in
    holds_as l.invariant (rw (eq-eqb _ _ replaces, all))

pub job-job-requires : goal.job-job-requires
job-job-requires c = state-length _ c.requires.0

pub count-count-requires : goal.count-count-requires
count-count-requires c = state-length _ c.requires.0
