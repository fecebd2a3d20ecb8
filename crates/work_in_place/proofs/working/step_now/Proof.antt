-- `working::step_now` meets its contract: the step that the outline chooses.
use mathlib.Core.Path.{ap, ◌∙◌}
use native.Mathlib.Omega.{arith}
use Rattle.records.specs.declared.payload.Payload.{Payload}
use Rattle.state.specs.Steps.{step_for}
use Rattle.state.specs.declared.state.State.{State}
use Rattle.ranges.proofs.Laws.{InRange}
use Rattle.state_bytes.specs.Stored.{state_in}
use Rattle.steps.specs.Next.{Chosen}
use Rattle.in_place.proofs.Laws.{ranges-of}
use Rattle.work_in_place.proofs.working.step_now.Statement.{statement}
use Rattle.work_in_place.proofs.working.step_now.Tie as tie

module _ (c : tie.Start) where
  abbrev state-of : State
  state-of = state_in c.args.b.now

  ranges : InRange state-of
  ranges = ranges-of _ c.requires.0 c.requires.1

choose-choice-requires : tie.Need-choose-choice-requires
choose-choice-requires c κs = let r = ranges c.before.before in
    let told = c.outline.ensures in
    (omega (arith, told.count, r.few), omega (arith, told.depth, r.few, r.shallow))

chosen : (c : tie.After-choose-choice) → Chosen c.choose-choice.result (state-of c.before.before.before)
chosen c = c.choose-choice.ensures _ c.outline.ensures c.requires.1 c.requires.2

returns : tie.Need-returns
returns c = let choice = c.choose-choice.result in
    c.step_for.ensures
    ∙ ap (λ (p : Payload). step_for choice.lays p choice.number) c.payload-payload.ensures
    ∙ (chosen c.before.before).step

outline-requires : tie.Need-outline-requires
outline-requires c κs = (c.requires.0, (ranges c.before).few)

payload-payload-requires : tie.Need-payload-payload-requires
payload-payload-requires c κs = (c.requires.0, omega (arith, (chosen c).place, (ranges c.before.before.before).few))

step_for-requires : tie.Need-step_for-requires
step_for-requires c κs = omega (arith, (chosen c.before).number, ((ranges c.before.before.before.before).payloads _ (chosen c.before).place).edits_max)

pub step_now_spec : {M : Type 1} → statement M
step_now_spec =
    tie.close (tie.spec outline-requires choose-choice-requires payload-payload-requires step_for-requires returns)
