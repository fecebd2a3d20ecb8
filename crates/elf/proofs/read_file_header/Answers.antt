-- `read_file_header` meets its contract.
use borrow.Author.Rules.{rules}
use Rattle.elf.specs.Layout.{file_header_of}
use Rattle.elf.proofs.read_file_header.Goals as goal

pub returns : goal.returns
unfolding file_header_of
returns c = record { value = cc; file_header_ranges = search rules }
