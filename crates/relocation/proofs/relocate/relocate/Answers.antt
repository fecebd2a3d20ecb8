-- `relocate` meets its contract: at each turn the sections from `i` on, over the bytes as they are, give what all of them give.
use Rattle.std.proofs.Common.{Ok}
use Prim.Native.Nat.{ℕ, ◌+◌, ◌-◌, ◌<◌}
use mathlib.Core.Path.{◌≡◌, refl, sym, ap, subst⁻¹, ◌∙◌}
use mathlib.Core.Bool.{true}
use mathlib.Core.List.{List}
use native.Mathlib.Nat.{le_trans}
use native.Mathlib.Omega.{arith}
use lib.ListN.{length, get_or, length-replicate}
use Rattle.records.specs.Limits.{sections_max}
use Rattle.machine.specs.Host.{host_machine}
use Rattle.object.specs.Sections.{section_in, no_entry}
use Rattle.object.specs.declared.sections.SectionEntry.{SectionEntry}
use Rattle.linking.specs.Kept.{Kept}
use Rattle.linking.specs.Linking.{Linking}
use Rattle.linking.specs.declared.kept.Cell.{Cell}
use Rattle.linking.specs.declared.kept.Cell.TheVariants.{Known}
use Rattle.relocation.specs.Relocating.{Relocated, relocated, continue, is_made_in, is_relocating, area_of, AreaFits, relocate_section, relocate_from, relocate_all, linking_of, Given}
use Rattle.relocation.specs.declared.fields.Area.{Area}
use Rattle.relocation.proofs.RelocateLaws.{relocating-kind, made-in-target, target_is, target_below, area-at, contents-short, section-made, section-passed, sections-turn, sections-end}
use Rattle.relocation.proofs.relocate.relocate.Goals as goal
use Rattle.relocation.proofs.relocate.relocate.Goals.{
  After-target_of-target,
  After-is_relocating,
  then-is_relocating+in_default,
  else-is_relocating,
}

pub read_symbols-requires : goal.read_symbols-requires
unfolding no_entry
read_symbols-requires c =
    (length-replicate {A = Cell} _ (Known 0), rw c.contents_of.ensures (le_trans (contents-short _ _) c.requires.0.short))

pub loop-i-init : goal.loop-i-init
unfolding relocate_all no_entry
loop-i-init c =
    let a = c.args in
    let all : a.reading.count - 0 ≡ a.reading.count = omega arith in
    -- the cells that were read stand for its symbols
    let kept : Kept (linking_of a.host a.file.now a.reading a.list.now) c.read_symbols.new.cells =
    c.read_symbols.ensures _
    (record { address = refl; few = c.requires.0.few; places = sym c.requires.1 })
    (sym c.contents_of.ensures) in
    (refl, rw all, kept)

-- its target is a section of the table
in_table : (c : goal.After-target_of-target) → c.target_of-target.result < sections_max
unfolding no_entry
in_table c =
    let linkable = c.requires.0 in
    rw c.target_of-target.ensures
    (target_below (section_in c.args.reading.sections c.loop-i.i)
    (λ kind. omega (arith, linkable.few, linkable.targets _ c.loop-i-test.true kind)))

pub offset_bounds-reading-target : goal.offset_bounds-reading-target
offset_bounds-reading-target c = omega (arith, in_table (goal.at.offset_bounds-reading-target c).After-target_of-target)

pub offset_bounds-layout-target : goal.offset_bounds-layout-target
offset_bounds-layout-target c = omega (arith, in_table (goal.at.offset_bounds-layout-target c).After-target_of-target)

pub bounds-layout-target : goal.bounds-layout-target
bounds-layout-target c = in_table (goal.at.bounds-layout-target c).After-target_of-target

-- ---- the section in turn

abbrev sections : goal.After-is_relocating → List SectionEntry
sections c = c.args.reading.sections

abbrev section : goal.After-is_relocating → SectionEntry
section c = section_in (sections c) c.loop-i.i

-- what the payload is linked against
abbrev against : goal.After-is_relocating → Linking
against c = linking_of c.args.host c.args.file.now c.args.reading c.args.list.now

-- what each section is given of it
given :
    (c : goal.After-is_relocating) → Given (against c) c.args.host c.loop-i.cells c.contents_of-strings.result.now c.args.list.now
unfolding no_entry
given c = record {
  address = refl;
  sought = record { kept = c.loop-i.invariant.2; names = sym c.contents_of-strings.ensures; listed = refl };
}

-- what it gives
abbrev gives : goal.After-is_relocating → Relocated
gives c = relocate_section (host_machine c.args.host) (against c) c.args.file.now c.loop-i.i c.loop-i.image

-- all sections give what it and those after it give
turn :
    (c : goal.After-is_relocating) →
    let a = c.args in
    let from = relocate_from (host_machine a.host) (against c) a.file.now in
    let i = c.loop-i.i in
    relocate_all (host_machine a.host) (against c) a.file.now a.image.now
    ≡ continue (gives c) (from (i + 1) (a.reading.count - (i + 1)))
turn c = c.loop-i.invariant.1 ∙ sections-turn _ _ _ _ _ _ c.loop-i-test.true

-- the test, and past it: its relocations are made, in the area of its target
relocates : (c : goal.After-is_relocating) → c.is_relocating.result ≡ is_relocating (sections c) (section c)
unfolding no_entry
relocates c =
    c.is_relocating.ensures
    ∙ ap (λ (target : ℕ). is_made_in (section c) (section_in (sections c) target)) c.target_of-target.ensures
    ∙ made-in-target (sections c) (section c)

area-is :
    (c : goal.After-is_relocating) → is_relocating (sections c) (section c) ≡ true →
    let target = c.target_of-target.result in
    ◌≡◌ {A = Area}
    (record {
      section = c.loop-i.i;
      start = get_or c.args.layout.offsets target 0;
      size = (section_in (sections c) target).header.sh_size;
    })
    (area_of (sections c) c.loop-i.i)
unfolding no_entry
area-is c made =
    let below = c.requires.0.targets _ c.loop-i-test.true (relocating-kind _ _ made) in
    area-at (sections c) _ _ (c.target_of-target.ensures ∙ target_is (sections c) (section c) made) c.requires.1 below

pub slice_bounds-relocate_entries-end : goal.slice_bounds-relocate_entries-end
slice_bounds-relocate_entries-end c = sym c.loop-i.invariant.2.all

pub relocate_entries-v-requires : goal.relocate_entries-v-requires
unfolding no_entry
relocate_entries-v-requires c =
    let at = (goal.at.relocate_entries-v-requires c).After-is_relocating in
    let made = sym (relocates at) ∙ c.if-is_relocating.true in
    let linkable = c.requires.0 in
    record {
      image_len = (
        c.loop-i.invariant.0 ∙ linkable.whole,
        subst⁻¹ (λ (a : Area). AreaFits a) (area-is at made) (linkable.inside _ c.loop-i-test.true made),
        rw c.contents_of-entries.ensures (le_trans (contents-short _ _) linkable.short),
      );
      given = (_, given at);
    }

pub returns-in-Err : goal.returns-in-Err
unfolding no_entry
returns-in-Err c =
    let at = (goal.at.returns-in-Err c).After-is_relocating in
    let made = sym (relocates at) ∙ c.if-is_relocating.true in
    let gave = (c.relocate_entries-v.ensures _ (given at)).0 in
    let refused = section-made _ _ _ _ _ made (area-is at made) c.contents_of-entries.ensures gave in
    sym (turn at ∙ rw (refused, c.in-Err.is))

pub loop-i-preserved : goal.loop-i-preserved
unfolding no_entry
loop-i-preserved c =
    let at = (goal.at.loop-i-preserved c).After-is_relocating in
    -- where nothing was refused: the bytes' length, what the section gives, and the cells
    let passed :
    (length c.if-is_relocating.image ≡ length c.loop-i.image)
    × (gives at ≡ relocated (Ok tt) c.if-is_relocating.image)
    × Kept (against at) c.if-is_relocating.cells =
    elim c.if-is_relocating.branch [
      | then-is_relocating+in_default w ↦
          let made = sym (relocates at) ∙ w.if-is_relocating.true in
          let gave = w.relocate_entries-v.ensures _ (given at) in
          rw (w.image-is, w.cells-is) (
            w.relocate_entries-v.auto.image,
            section-made _ _ _ _ _ made (area-is at made) w.contents_of-entries.ensures gave.0 ∙ rw w.in_default.is,
            gave.1,
          )
      | else-is_relocating w ↦
          rw (w.image-is, w.cells-is) (
            refl,
            section-passed _ _ _ _ _ (sym (relocates at) ∙ w.if-is_relocating.false),
            c.loop-i.invariant.2,
          )
    ] in
    (passed.0 ∙ c.loop-i.invariant.0, turn at ∙ rw passed.1, passed.2)

-- ---- the end

pub returns : goal.returns
returns c = sym (c.loop-i.invariant.1 ∙ sections-end _ _ _ _ _ _ c.loop-i-test.false)
