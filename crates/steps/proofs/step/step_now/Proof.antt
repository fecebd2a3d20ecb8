-- `step::step_now` meets its contract: the step of the record that was chosen.
use Prim.Native.Nat.{◌<◌}
use mathlib.Core.Path.{ap, ◌∙◌}
use native.Mathlib.Omega.{arith}
use Rattle.records.specs.declared.payload.Payload.{Payload}
use Rattle.memory.specs.Memory.{slot_count}
use Rattle.state.specs.Steps.{step_for}
use Rattle.state.proofs.Whole.{Whole, whole, copied-payload}
use Rattle.ranges.proofs.Laws.{InRange, in-range}
use Rattle.steps.specs.Next.{Chosen}
use Rattle.steps.proofs.step.step_now.Statement.{statement}
use Rattle.steps.proofs.step.step_now.Tie as tie

module _ (c : tie.Start) where
  all_whole : Whole c.args.state
  all_whole = whole c.args.state _ c.well_formed.0

  ranges : InRange c.args.state
  ranges = in-range all_whole c.requires.0

choose-choice-requires : tie.Need-choose-choice-requires
choose-choice-requires c κs = let r = ranges c.before in
    let told = c.outline_of.ensures in
    (omega (arith, told.count, r.few), omega (arith, told.depth, r.few, r.shallow))

module _ (c : tie.After-choose-choice) where
  abbrev begun : tie.Start
  begun = c.before.before

  chosen : Chosen c.choose-choice.result begun.args.state
  chosen = c.choose-choice.ensures _ c.outline_of.ensures begun.requires.0 begun.requires.1

  inside : c.choose-choice.result.place < slot_count
  inside = omega (arith, chosen.place, (ranges begun).few)

step_for-requires : tie.Need-step_for-requires
step_for-requires c κs = omega (arith, (chosen c.before).number, ((ranges (begun c.before)).payloads _ (chosen c.before).place).edits_max)

returns : tie.Need-returns
returns c = let choice = c.choose-choice.result in
    c.step_for.ensures
    ∙ ap (λ (p : Payload). step_for choice.lays p choice.number) (copied-payload (all_whole (begun c.before.before)) choice.place (inside c.before.before))
    ∙ (chosen c.before.before).step

outline_of-requires : tie.Need-outline_of-requires
outline_of-requires c κs = (ranges c).few

offset_bounds-state-place : tie.Need-offset_bounds-state-place
offset_bounds-state-place c = omega (arith, inside c)

bounds-state-place : tie.Need-bounds-state-place
bounds-state-place c = omega (arith, inside c)

pub step_now_spec : {M : Type 1} → statement M
step_now_spec =
    tie.close (tie.spec outline_of-requires choose-choice-requires offset_bounds-state-place bounds-state-place step_for-requires returns)
