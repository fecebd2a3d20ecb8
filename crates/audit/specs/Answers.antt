-- What each function of the C boundary returns: 0, or number + 2^8 kind + 2^16 first + 2^32 second of the refusal.
use Rattle.std.specs.Prelude.{ℕ, List}
use Rattle.records.specs.Refusal.{verdict_code}
use Rattle.records.specs.Verdict.{must}
use Rattle.records.specs.declared.refusal.Place.TheVariants.{Nowhere}
use Rattle.machine.specs.X86.{x86_64}
use Rattle.symbols.specs.SymbolList.{valid}
use Rattle.payload.specs.Reading.{read_rules}

-- a symbol list: 22, nowhere, where it is none
unfoldable pub list_answer : List ℕ → ℕ
list_answer list = verdict_code (must (valid list) 22 Nowhere)

-- a file for x86-64: document 01's reading of a payload up to and including both notes
unfoldable pub file_answer : List ℕ → ℕ
file_answer file = verdict_code (read_rules x86_64 file)
