-- `sections::read_sections` meets its contract: the first `i` elements are the entries of the first `i` sections.
use Prim.Native.Nat.{◌<◌}
use mathlib.Core.Path.{◌≡◌, ap, ◌∙◌}
use native.Mathlib.Omega.{arith}
use lib.ListN.{replicate}
use Rattle.words.proofs.Scan.{fill-begin, fill-turn}
use Rattle.records.specs.Limits.{sections_max}
use Rattle.object.specs.Sections.{section_count, no_entry, sections}
use Rattle.object.proofs.SectionLaws.{count-read}
use Rattle.object.proofs.sections.read_sections.Goals as goal

pub loop-i-init : goal.loop-i-init
loop-i-init c = ap (replicate sections_max) c.none-none.ensures ∙ fill-begin _ _ _

pub loop-i-preserved : goal.loop-i-preserved
loop-i-preserved c =
    let below : c.loop-i.i < sections_max = omega (arith, count-read _ c.read_file_header-h.ensures.value, c.requires.0.few) in
    rw (c.loop-i.invariant, c.entry_at.ensures) (fill-turn _ no_entry sections_max _ below)

pub returns : goal.returns
unfolding sections
returns c = let all : c.loop-i.i ≡ section_count c.args.file.now = omega (arith, count-read _ c.read_file_header-h.ensures.value) in
    rw (c.loop-i.invariant, all)
