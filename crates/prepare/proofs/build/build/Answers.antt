-- `build::build` meets its contract: each stage answers as its definition says, and the first that refuses ends it.
use Rattle.std.proofs.Common.{◌≡◌, refl, sym, ap, ◌∙◌, length, arith}
use Rattle.std.proofs.lemmas.Result.{err_from_is_err_and}
use Rattle.records.specs.Limits.{placed_max}
use Rattle.payload.proofs.ReadingLaws.{read-passes}
use Rattle.placement.proofs.PlacementLaws.{length_none}
use Rattle.acceptance.specs.Stages.{Setting, setting, relocated_of}
use Rattle.prepare.proofs.BuildLaws.{
  built-by,
  place-refuses,
  InSlot,
  in-slot,
  to-relocate,
  index_below,
  relocate-told,
  image_is,
  part-fits,
  part_length,
  to-patch,
  patch-refuses,
  patch-passes,
  all-built,
}
use Rattle.prepare.proofs.build.build.Goals as goal
use Rattle.prepare.proofs.build.build.Goals.{In_ok-placement, After-relocate}

pub place-requires : goal.place-requires
place-requires c = (rw c.requires.0.read (read-passes c.args.file.now _ c.requires.0.passes).head.few, c.requires.2)

pub returns-in_err-placement : goal.returns-in_err-placement
returns-in_err-placement c =
    let p = err_from_is_err_and c.from_residual.result c.from_residual.ensures.1 in
    rw (p.1, p.2) (place-refuses (setting c.args.host c.args.list.now) c.requires.0 (rw (c.in_err-placement.was) at c.place.ensures))

-- ---- where placement has passed

abbrev aim : goal.In_ok-placement → Setting
aim c = setting c.args.host c.args.list.now

placed : (c : goal.In_ok-placement) → InSlot (aim c) c.args.file.now c.args.reading c.in_ok-placement.placement c.place.new.image
placed c = in-slot c.requires.0 (rw (c.in_ok-placement.was) at c.place.ensures)

pub relocate-requires : goal.relocate-requires
relocate-requires c = to-relocate (placed (goal.at.relocate-requires c).In_ok-placement)

-- ---- where relocation has answered

made : (c : goal.After-relocate) → c.relocate.new.image ≡ (relocated_of (setting c.args.host c.args.list.now) c.args.file.now).image
made c = image_is (placed (goal.at.After-relocate c).In_ok-placement) c.relocate.ensures

still-whole : (c : goal.After-relocate) → length c.relocate.new.image ≡ placed_max
still-whole c = c.relocate.auto.image ∙ c.place.auto.image ∙ ap length c.requires.2 ∙ length_none

pub nothing_built-requires : goal.nothing_built-requires
nothing_built-requires c = still-whole (goal.at.nothing_built-requires c).After-relocate

pub returns-in-Err : goal.returns-in-Err
returns-in-Err c =
    let p = placed (goal.at.returns-in-Err c).In_ok-placement in
    c.nothing_built.ensures ∙ sym (built-by _ _ p.fits (relocate-told p c.relocate.ensures c.in-Err.is) refl)

-- ---- where it has passed: the records' index is one of the table

pub offset_bounds-offsets-records : goal.offset_bounds-offsets-records
offset_bounds-offsets-records c = omega (arith, index_below (placed (goal.at.offset_bounds-offsets-records c).In_ok-placement))

pub bounds-offsets-records : goal.bounds-offsets-records
bounds-offsets-records c = index_below (placed (goal.at.bounds-offsets-records c).In_ok-placement)

pub record_count-count-requires : goal.record_count-count-requires
record_count-count-requires c = index_below (placed (goal.at.record_count-count-requires c).In_ok-placement)

pub slice_bounds-read_functions-end : goal.slice_bounds-read_functions-end
slice_bounds-read_functions-end c =
    let at = goal.at.slice_bounds-read_functions-end c in
    part-fits (placed at.In_ok-placement) (made at.After-relocate)

pub slice_bounds-read_functions-end-2 : goal.slice_bounds-read_functions-end-2
slice_bounds-read_functions-end-2 c =
    let at = goal.at.slice_bounds-read_functions-end-2 c in
    part_length (placed at.In_ok-placement) (made at.After-relocate)

pub read_functions-requires : goal.read_functions-requires
read_functions-requires c =
    let at = goal.at.read_functions-requires c in
    let asked = to-patch (placed at.In_ok-placement) (made at.After-relocate) c.record_count-count.ensures in
    (asked.0, asked.1, c.requires.1)

pub nothing_built-requires-in-Err-read_functions : goal.nothing_built-requires-in-Err-read_functions
nothing_built-requires-in-Err-read_functions c =
    still-whole (goal.at.nothing_built-requires-in-Err-read_functions c).After-relocate

pub returns-in-Err-read_functions : goal.returns-in-Err-read_functions
returns-in-Err-read_functions c =
    let at = goal.at.returns-in-Err-read_functions c in
    let p = placed at.In_ok-placement in
    let passed = relocate-told p c.relocate.ensures c.in_default.is in
    let told = patch-refuses p (made at.After-relocate) c.record_count-count.ensures c.read_functions.ensures c.in-Err-read_functions.is in
    c.nothing_built-in-Err-read_functions.ensures ∙ sym (built-by _ _ p.fits passed told)

pub returns-in-Ok : goal.returns-in-Ok
returns-in-Ok c =
    let at = goal.at.returns-in-Ok c in
    let p = placed at.In_ok-placement in
    let passed = relocate-told p c.relocate.ensures c.in_default.is in
    let counted = c.record_count-count.ensures in
    let found = c.read_functions.ensures in
    all-built p (made at.After-relocate) counted found c.in-Ok.is
    ∙ sym (built-by _ _ p.fits passed (patch-passes p (made at.After-relocate) counted found c.in-Ok.is))
