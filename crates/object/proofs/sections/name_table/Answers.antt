-- `sections::name_table` meets its contract.
use native.Mathlib.Omega.{arith}
use Rattle.object.specs.Sections.{name_table}
use Rattle.object.proofs.SectionLaws.{names-read, names-inside}
use Rattle.object.proofs.sections.name_table.Goals as goal

pub header_at-requires : goal.header_at-requires
header_at-requires c = (c.requires.0, omega (arith, names-read _ c.read_file_header-h.ensures.value, names-inside _ c.requires.1))

pub returns : goal.returns
unfolding name_table
returns c = simp (c.contents_of.ensures, c.header_at.ensures, names-read _ c.read_file_header-h.ensures.value)
