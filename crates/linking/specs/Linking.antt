-- What a payload's symbols are resolved against.
use Rattle.std.specs.Prelude.{ℕ, List}
use Rattle.words.specs.Address.{wrapping_sum}
use Rattle.object.specs.declared.sections.SectionEntry.{SectionEntry}
use Rattle.placement.specs.Placement.{offset_of}

pub record Linking : Type 0 where
  -- the slot's address
  pub slot : ℕ
  -- the payload's sections, and how many there are
  pub sections : List SectionEntry
  pub count : ℕ
  -- the contents of the symbol table and of its string table, and the symbol list
  pub symbols : List ℕ
  pub strings : List ℕ
  pub list : List ℕ

-- the address of section i: modulo 2^64, as all sums of addresses
abbrev pub section_address : Linking → ℕ → ℕ
section_address l i = wrapping_sum l.slot (offset_of l.sections i)
