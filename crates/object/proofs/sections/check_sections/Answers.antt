-- `sections::check_sections` meets its contract: at each turn the scan from section `i` on says what the scan from the first section on says.
use Rattle.std.proofs.Common.{Ok}
use Prim.Native.Nat.{◌<◌, ◌≤◌}
use mathlib.Core.Path.{◌≡◌, sym, ◌∙◌}
use native.Mathlib.Omega.{arith}
use borrow.Author.Tests.{eq-eqb, ne_eqb}
use Rattle.std.proofs.lemmas.List.{get_or-take, length-take}
use Rattle.words.specs.Scan.{scan}
use Rattle.words.proofs.Scan.{begin, turn, end}
use Rattle.object.specs.Sections.{no_entry, one_section, sections_rules}
use Rattle.object.specs.declared.sections.SectionEntry.{SectionEntry}
use Rattle.object.proofs.sections.check_sections.Goals as goal
use Rattle.object.proofs.sections.check_sections.Goals.{Else-h-ne0}

-- where section 0 has type 0, the rules are those of each section
each-section :
    (c : Else-h-ne0) →
    let a = c.args in
    sections_rules a.size a.table a.count ≡ scan (one_section a.size a.table) (Ok tt) 0 a.count
unfolding sections_rules no_entry
each-section c = simp (eq-eqb _ _ c.if-h-ne0.false)

pub returns-then-h-ne0 : goal.returns-then-h-ne0
unfolding sections_rules no_entry
returns-then-h-ne0 c = simp (ne_eqb _ _ c.if-h-ne0.true, c.refused.ensures)

pub loop-i-init : goal.loop-i-init
loop-i-init c = begin _ _ _

pub returns-in-Err : goal.returns-in-Err
unfolding no_entry
returns-in-Err c =
    let below : c.loop-i.i < c.args.count = omega (arith, length-take {A = SectionEntry}) in
    sym
    (each-section (goal.at.returns-in-Err c).Else-h-ne0
    ∙ c.loop-i.invariant
    ∙ turn _ _ _ _ below
    ∙ rw (← get_or-take c.args.count c.args.table c.loop-i.i no_entry below, ← c.check_section-v.ensures, c.in-Err.is))

pub loop-i-preserved : goal.loop-i-preserved
unfolding no_entry
loop-i-preserved c =
    let below : c.loop-i.i < c.args.count = omega (arith, length-take {A = SectionEntry}) in
    c.loop-i.invariant
    ∙ turn _ _ _ _ below
    ∙ rw (← get_or-take c.args.count c.args.table c.loop-i.i no_entry below, ← c.check_section-v.ensures, c.in_default.is)

pub returns : goal.returns
returns c =
    let past : c.args.count ≤ c.loop-i.i = omega (arith, length-take {A = SectionEntry}) in
    sym (each-section (goal.at.returns c).Else-h-ne0 ∙ c.loop-i.invariant ∙ end _ _ _ _ past)
