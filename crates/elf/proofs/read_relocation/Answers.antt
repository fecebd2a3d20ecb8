-- `read_relocation` meets its contract.
use borrow.Author.Rules.{rules}
use Rattle.elf.specs.Layout.{relocation_of}
use Rattle.elf.proofs.read_relocation.Goals as goal

pub returns : goal.returns
unfolding relocation_of
returns c = record { value = cc; relocation_ranges = search rules }
