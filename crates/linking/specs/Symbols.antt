-- Document 01: "S: symbol 0 is 0, other numbers lie in the table; .."
use Rattle.records.specs.declared.refusal.Reason.{Reason}
use Rattle.std.specs.Prelude.{ℕ, ◌+◌, ◌*◌, ◌/◌, Bool, cond, ◌&&◌, List, leb, ltb, eqb, length, Some, None, Option, Ok, Err, Result}
use Rattle.words.specs.Address.{wrapping_sum}
use Rattle.records.specs.Refusal.{reason_for}
use Rattle.elf.specs.Layout.{symbol_size, symbol_of}
use Rattle.elf.specs.Name.{Name, named, unnamed, name_in}
use Rattle.elf.specs.declared.Symbol.{Symbol}
use Rattle.symbols.specs.SymbolList.{lookup}
use Rattle.object.specs.Sections.{section_in}
use Rattle.object.specs.declared.sections.SectionEntry.{SectionEntry}
use Rattle.placement.specs.Placement.{is_placed}
use Rattle.linking.specs.Linking.{Linking, section_address}

-- "weak binding (upper four bits of st_info 2)" (W4)
abbrev pub is_weak : Symbol → Bool
is_weak s = eqb (s.st_info / 16) 2

-- "a used symbol .. isn't in the list": 3; a weak one "gives S = 0; number 3 is for other bindings only" (W4)
abbrev pub symbol_found : Bool → Option ℕ → Result ℕ Reason
symbol_found weak (Some a) = Ok a
symbol_found weak None = cond weak (Ok 0) (Err (reason_for 3))

-- "a name with no ending zero in its table: 22; an empty one isn't in the list"
abbrev pub named_value : Bool → List ℕ → Name → Result ℕ Reason
named_value weak list (named name) = symbol_found weak (lookup list name)
named_value weak list unnamed = Err (reason_for 22)

-- "undefined means looked up by name in the list": the symbol, the string table and the list decide
abbrev pub undefined_value : List ℕ → List ℕ → Symbol → Result ℕ Reason
undefined_value strings list s = named_value (is_weak s) list (name_in strings s.st_name)

-- the section that a symbol stands in
abbrev pub home_of : Linking → Symbol → SectionEntry
home_of l s = section_in l.sections s.st_shndx

-- "a placed section's address plus a value at most its size"; "a symbol in an unplaced section or past the last: 22"
unfoldable pub stands_in : Linking → Symbol → Bool
stands_in l s =
    ltb s.st_shndx l.count
    && is_placed (home_of l s)
    && leb s.st_value (home_of l s).header.sh_size

unfoldable pub defined_value : Linking → Symbol → Result ℕ Reason
defined_value l s = cond (stands_in l s) (Ok (wrapping_sum (section_address l s.st_shndx) s.st_value)) (Err (reason_for 22))

-- "index 0xfff1 is the value"; "Other indices from 0xff00 on: 95". The type isn't consulted, and the binding of an undefined symbol alone (W4)
unfoldable pub value_by : Linking → Symbol → Result ℕ Reason
value_by l s =
    cond (eqb s.st_shndx 0xfff1) (Ok s.st_value)
    (cond (eqb s.st_shndx 0) (undefined_value l.strings l.list s)
    (cond (leb 0xff00 s.st_shndx) (Err (reason_for 95))
    (defined_value l s)))

-- "symbol 0 is 0, other numbers lie in the table"
unfoldable pub symbol_value : Linking → ℕ → Result ℕ Reason
symbol_value l number =
    cond (eqb number 0) (Ok 0)
    (cond (leb (symbol_size * number + symbol_size) (length l.symbols)) (value_by l (symbol_of l.symbols (symbol_size * number)))
    (Err (reason_for 22)))
