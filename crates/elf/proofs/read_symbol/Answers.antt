-- `read_symbol` meets its contract.
use borrow.Author.Rules.{rules}
use Rattle.elf.specs.Layout.{symbol_of}
use Rattle.elf.proofs.read_symbol.Goals as goal

pub returns : goal.returns
unfolding symbol_of
returns c = record { value = cc; symbol_ranges = search rules }
