-- `sections::header_at` meets its contract.
use Prim.Native.Nat.{◌+◌, ◌*◌}
use mathlib.Core.Path.{ap, ◌∙◌}
use native.Mathlib.Omega.{arith}
use Rattle.elf.specs.Layout.{section_header_size, section_header_of}
use Rattle.elf.specs.declared.FileHeader.{FileHeader}
use Rattle.object.specs.Sections.{header_at}
use Rattle.object.proofs.SectionLaws.{header-inside}
use Rattle.object.proofs.sections.header_at.Goals as goal

pub overflow_add-at : goal.overflow_add-at
overflow_add-at c = omega (arith, header-inside _ c.read_file_header-h.ensures.value _ c.requires.0 c.requires.1)

pub read_section_header-requires : goal.read_section_header-requires
read_section_header-requires c = header-inside _ c.read_file_header-h.ensures.value _ c.requires.0 c.requires.1

pub returns : goal.returns
unfolding header_at
returns c = let a = c.args in
    c.read_section_header.ensures.value
    ∙ ap (λ (h : FileHeader). section_header_of a.file.now (h.e_shoff + section_header_size * a.i)) c.read_file_header-h.ensures.value
