-- Document 01, "Function records": their layout, and the old address.
use Rattle.records.specs.declared.refusal.Reason.{Reason}
use Rattle.std.specs.Prelude.{ℕ, ◌+◌, ◌-◌, Bool, cond, ◌&&◌, List, leb, ltb, eqb, length, Option, ok_or, Ok, Err, Result}
use Rattle.words.specs.Number.{le_at}
use Rattle.records.specs.Refusal.{reason_for}
use Rattle.elf.specs.Name.{Name, named, unnamed, name_in}
use Rattle.symbols.specs.SymbolList.{listed_name_max, lookup}
use Rattle.functions.specs.Patching.{Patching}
use Rattle.functions.specs.declared.function.FunctionRecord.{FunctionRecord}

-- "64 bytes ..: name, new_addr, old_addr of 8; new_size, old_size of 4; version 1; 31 zero bytes": the record at at of the placed bytes
unfoldable pub record_of : List ℕ → ℕ → FunctionRecord
record_of placed at =
    record {
      name = le_at 8 placed at;
      new_addr = le_at 8 placed (at + 8);
      old_addr = le_at 8 placed (at + 16);
      new_size = le_at 4 placed (at + 24);
      old_size = le_at 4 placed (at + 28);
      version = le_at 1 placed (at + 32);
    }

-- "name points into the placed bytes"
abbrev pub points_into : Patching → ℕ → Bool
points_into p address = leb p.host.slot address && ltb (address - p.host.slot) (length p.placed)

-- "a used .. function name isn't in the list": 3
abbrev pub function_found : Option ℕ → Result ℕ Reason
function_found o = ok_or o (reason_for 3)

-- "1 to 127 bytes ended by zero, and is looked up"
abbrev pub named_address : List ℕ → Name → Result ℕ Reason
named_address list (named name) =
    cond (leb 1 (length name) && leb (length name) listed_name_max) (function_found (lookup list name)) (Err (reason_for 22))
named_address list unnamed = Err (reason_for 22)

-- "old_addr 0: name points into the placed bytes at ..; Otherwise name isn't consulted."
unfoldable pub old_address_of : Patching → FunctionRecord → Result ℕ Reason
old_address_of p f =
    cond (eqb f.old_addr 0)
    (cond (points_into p f.name) (named_address p.list (name_in p.placed (f.name - p.host.slot))) (Err (reason_for 22)))
    (Ok f.old_addr)
