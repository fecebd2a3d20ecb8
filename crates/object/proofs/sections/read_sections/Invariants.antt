-- `sections::read_sections` meets its contract: the first `i` elements are the entries of the first `i` sections.
use mathlib.Core.Path.{◌≡◌}
use Rattle.words.specs.Scan.{filled}
use Rattle.records.specs.Limits.{sections_max}
use Rattle.object.specs.Sections.{section_read, no_entry}
use Rattle.object.proofs.sections.read_sections.Given as goal

abbrev pub invariant-loop-i : goal.invariant-loop-i
invariant-loop-i l = l.table ≡ filled (section_read l.file) no_entry sections_max l.i
