-- `place` meets its contract: before each turn the sections before `i` are placed.
use Rattle.std.proofs.Common.{Some}
use mathlib.Core.Path.{◌≡◌, sym, ap, ◌∙◌}
use native.Mathlib.Omega.{arith}
use lib.ListN.{length}
use Rattle.object.specs.Sections.{section_in, no_entry}
use Rattle.object.specs.declared.sections.SectionEntry.{SectionEntry}
use Rattle.placement.specs.Placement.{step_of}
use Rattle.placement.proofs.PlacementLaws.{bound-inside, contents-inside, length_none, laid}
use Rattle.placement.proofs.Placing.{step-at, image-length, placing-begin, placing-turn, placing-refuses, placing-ends}
use Rattle.placement.proofs.place.Goals as goal
use Rattle.placement.proofs.place.Goals.{In-Some, Joined-has_contents, then-has_contents, else-has_contents}

pub loop-i-init : goal.loop-i-init
loop-i-init c = placing-begin _ _ _ c.requires.1

pub refuse_at-requires : goal.refuse_at-requires
refuse_at-requires c = image-length c.loop-i.invariant

pub shape_of-image-in_default : goal.shape_of-image-in_default
shape_of-image-in_default c = c.refuse_at.auto.image ∙ image-length c.loop-i.invariant ∙ sym (ap length c.requires.1 ∙ length_none)

pub returns-in_default : goal.returns-in_default
unfolding no_entry
returns-in_default c = c.refuse_at.ensures
    ∙ placing-refuses c.loop-i.invariant c.loop-i-test.true (sym c.place_one.ensures ∙ c.in_default.is)

-- ---- a section that has room: the section, and where it goes

abbrev section : goal.In-Some → SectionEntry
section c = section_in c.args.table c.loop-i.i

steps : (c : goal.In-Some) → step_of c.loop-i.end (section c) ≡ Some (c.in-Some.start, c.in-Some.next)
unfolding no_entry
steps c = sym c.place_one.ensures ∙ c.in-Some.is

pub copy-requires : goal.copy-requires
unfolding no_entry
copy-requires c =
    let at = (goal.at.copy-requires c).In-Some in
    let fits = step-at c.loop-i.end (section at) (steps at) in
    let copied = sym c.has_contents.ensures ∙ c.if-has_contents.true in
    omega (
      arith,
      contents-inside c.args.file.now c.loop-i.end (section at) copied,
      ap length c.contents_of.ensures,
      image-length c.loop-i.invariant,
    )

pub bound_for-requires : goal.bound_for-requires
unfolding no_entry
bound_for-requires c = bound-inside _ _ (step-at _ _ (steps (goal.at.bound_for-requires c).In-Some)).room

-- its bytes are laid where it goes
lays :
    (c : goal.Joined-has_contents) →
    c.if-has_contents.image ≡ laid c.args.file.now c.loop-i.image c.in-Some.start (section_in c.args.table c.loop-i.i)
unfolding no_entry
lays c =
    elim c.if-has_contents.branch [
      | then-has_contents w ↦ w.image-is ∙ w.copy.ensures ∙ rw (w.contents_of.ensures, ← c.has_contents.ensures, w.if-has_contents.true)
      | else-has_contents w ↦ w.image-is ∙ rw (← c.has_contents.ensures, w.if-has_contents.false)
    ]

pub loop-i-preserved : goal.loop-i-preserved
unfolding no_entry
loop-i-preserved c =
    rw (lays (goal.at.loop-i-preserved c).Joined-has_contents, c.bound_for.ensures)
    (placing-turn c.loop-i.invariant c.loop-i-test.true (omega arith) (steps (goal.at.loop-i-preserved c).In-Some))

-- ---- the end

pub shape_of-image : goal.shape_of-image
shape_of-image c = image-length c.loop-i.invariant ∙ sym (ap length c.requires.1 ∙ length_none)

pub returns : goal.returns
returns c = placing-ends c.loop-i.invariant c.loop-i-test.false
