-- `read_section_header` meets its contract.
use borrow.Author.Rules.{rules}
use Rattle.elf.specs.Layout.{section_header_of}
use Rattle.elf.proofs.read_section_header.Goals as goal

pub returns : goal.returns
unfolding section_header_of
returns c = record { value = cc; section_header_ranges = search rules }
