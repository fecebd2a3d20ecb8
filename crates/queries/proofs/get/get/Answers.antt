-- `get::get` meets its contract: the first check that fails decides, and else the payload that was found.
use Rattle.std.proofs.Common.{◌<◌, ◌≡◌, sym, ap, ◌∙◌, arith, true, Ok}
use Rattle.words.proofs.Tests.{held}
use Rattle.records.specs.Name.{is_name}
use Rattle.memory.specs.Memory.{slot_count}
use Rattle.state.proofs.Whole.{whole, copied-payload}
use Rattle.ranges.specs.Ranges.{in_range}
use Rattle.ranges.proofs.Laws.{in-range}
use Rattle.queries.specs.Get.{got}
use Rattle.queries.proofs.GetLaws.{name-hit, get-found}
use Rattle.queries.proofs.get.get.Goals as goal
use Rattle.queries.proofs.get.get.Goals.{Else-not-in_range, Else-not-is_name, In-Some}

right : (c : goal.Else-not-in_range) → in_range c.args.state ≡ true
right c = held c.in_range.ensures c.if-not-in_range.false

-- the name is one
named : (c : goal.Else-not-is_name) → is_name c.args.name.now ≡ true
named c = held c.is_name.ensures c.if-not-is_name.false

-- what was found is in the list
inside : (c : goal.In-Some) → c.in-Some.i < slot_count
inside c =
    let hit = name-hit c.args.state _ _ (sym c.with_name.ensures ∙ c.in-Some.is) in
    omega (arith, hit, (in-range (whole c.args.state _ c.well_formed.0) (right (goal.at.In-Some c).Else-not-in_range)).few)

pub offset_bounds-state-i : goal.offset_bounds-state-i
offset_bounds-state-i c = omega (arith, inside (goal.at.offset_bounds-state-i c).In-Some)

pub bounds-state-i : goal.bounds-state-i
bounds-state-i c = omega (arith, inside (goal.at.bounds-state-i c).In-Some)

pub returns : goal.returns
returns c = let at = goal.at.returns c in
    ap Ok (c.answer.ensures ∙ ap got (copied-payload (whole c.args.state _ c.well_formed.0) _ (inside at.In-Some)))
    ∙ get-found _ _ (right at.Else-not-in_range) (named at.Else-not-is_name) _ (sym c.with_name.ensures ∙ c.in-Some.is)
