-- A payload's symbols as they are kept while it is relocated, a cell for each. A name is looked up at the symbol's first use, and the
-- address that was found is kept.
use Rattle.records.specs.declared.refusal.Reason.{Reason}
use Rattle.std.specs.Prelude.{ℕ, ◌+◌, ◌/◌, ◌≤◌, ◌<◌, ◌≡◌, true, false, List, length, get_or, set, Ok, Err, Result}
use Rattle.records.specs.Limits.{file_max, sections_max}
use Rattle.elf.specs.Layout.{symbol_size}
use Rattle.elf.specs.Name.{name_in}
use Rattle.placement.specs.Placement.{layout_of}
use Rattle.placement.specs.declared.Layout.{Layout}
use Rattle.linking.specs.Linking.{Linking}
use Rattle.linking.specs.declared.kept.Cell.{Cell}
use Rattle.linking.specs.declared.kept.Cell.TheVariants.{Known, Refused, Named, NamedWeak}
use Rattle.linking.specs.Symbols.{named_value, symbol_value}

-- the symbols that a file of the largest size has room for, rounded up
abbrev pub symbols_max : ℕ
symbols_max = file_max / symbol_size + 1

-- what a cell says that its symbol is worth
abbrev pub cell_value : List ℕ → List ℕ → Cell → Result ℕ Reason
cell_value strings list (Known value) = Ok value
cell_value strings list (Refused reason) = Err reason
cell_value strings list (Named name) = named_value false list (name_in strings name)
cell_value strings list (NamedWeak name) = named_value true list (name_in strings name)

-- the cells, one for each number that a table in a file can have, say what the symbols of l are worth
pub record Kept (l : Linking) (cells : List Cell) : Type 0 where
  pub all : length cells ≡ symbols_max
  pub short : length l.symbols ≤ file_max
  pub each : (number : ℕ) → number < symbols_max → cell_value l.strings l.list (get_or cells number (Known 0)) ≡ symbol_value l number

-- the cells after the name in cell i was looked up: the address that is found is kept
abbrev pub with_found : List Cell → ℕ → Result ℕ Reason → List Cell
with_found cells i (Ok a) = set cells i (Known a)
with_found cells i (Err reason) = cells

-- what is known of l where its symbols are read: the slot's address, and where the sections stand
pub record Stands (l : Linking) (slot : ℕ) (layout : Layout) : Type 0 where
  pub address : l.slot ≡ slot
  pub few : l.count ≤ sections_max
  pub places : layout_of l.sections l.count ≡ layout

-- and where they are used: the string table and the symbol list
pub record Sought (l : Linking) (cells : List Cell) (strings list : List ℕ) : Type 0 where
  pub kept : Kept l cells
  pub names : l.strings ≡ strings
  pub listed : l.list ≡ list
