-- Document 01, "Function records": when a record is right, and the edit that it asks for.
use Rattle.records.specs.declared.payload.Edit.{Edit}
use Rattle.records.specs.declared.refusal.Reason.{Reason}
use Rattle.std.specs.Prelude.{ℕ, ◌+◌, ◌-◌, Bool, cond, ◌&&◌, List, leb, eqb, length, Ok, Err, Result}
use Rattle.words.specs.Order.{all_zero}
use Rattle.words.specs.Splice.{part}
use Rattle.records.specs.Refusal.{reason_for}
use Rattle.records.specs.declared.payload.EditKind.TheVariants.{Jump, Fill}
use Rattle.functions.specs.Patching.{Patching, machine_for}
use Rattle.functions.specs.Records.{record_of, old_address_of}
use Rattle.functions.specs.declared.function.FunctionRecord.{FunctionRecord}

-- size bytes from address on lie among count bytes that begin at start, by ordinary sums
abbrev pub lies_in : ℕ → ℕ → ℕ → ℕ → Bool
lies_in start count address size = leb start address && leb (address - start + size) count

-- "version 1; 31 zero bytes": of the record at at
unfoldable pub form_ok : List ℕ → ℕ → FunctionRecord → Bool
form_ok placed at f = eqb f.version 1 && all_zero (part placed (at + 33) 31)

-- "new_addr not 0: new_size at least 1, old_size at least 5, new code inside the placed bytes"
unfoldable pub jump_ok : Patching → FunctionRecord → Bool
jump_ok p f =
    leb 1 f.new_size
    && leb (machine_for p).jump_length f.old_size
    && lies_in p.host.slot (length p.placed) f.new_addr f.new_size

-- "new_addr 0: new_size 1 to 31, at most old_size"
unfoldable pub fill_ok : Patching → FunctionRecord → Bool
fill_ok p f = (machine_for p).fill_size f.new_size && leb f.new_size f.old_size

-- "The edit and all of old_size lie in text, by ordinary sums."
abbrev pub in_text : Patching → ℕ → FunctionRecord → Bool
in_text p old f = lies_in p.host.text p.host.text_length old f.old_size

-- old and new code may stand at their addresses on this machine
abbrev pub addresses_ok : Patching → ℕ → FunctionRecord → Bool
addresses_ok p old f = (machine_for p).address old && (machine_for p).address f.new_addr

-- "The edit is e9 and new_addr - (old address + 5) in 4 bytes."; "34: a 4-byte value out of range"
unfoldable pub jump_edit : Patching → ℕ → FunctionRecord → Result Edit Reason
jump_edit p old f =
    let displacement = (machine_for p).displacement old f.new_addr in
    cond ((machine_for p).reaches displacement)
    (Ok (record { offset = old - p.host.text; length = (machine_for p).jump_length; kind = Jump displacement }))
    (Err (reason_for 34))

-- "The edit is new_size bytes 90."
abbrev pub fill_edit : Patching → ℕ → FunctionRecord → Result Edit Reason
fill_edit p old f = Ok (record { offset = old - p.host.text; length = f.new_size; kind = Fill })

-- the record at at with its old address known: "all other 22, 34"
unfoldable pub edit_from : Patching → ℕ → ℕ → FunctionRecord → Result Edit Reason
edit_from p at old f =
    cond (form_ok p.placed at f && in_text p old f && addresses_ok p old f)
    (cond (eqb f.new_addr 0)
    (cond (fill_ok p f) (fill_edit p old f) (Err (reason_for 22)))
    (cond (jump_ok p f) (jump_edit p old f) (Err (reason_for 22))))
    (Err (reason_for 22))

abbrev pub edit_by : Patching → ℕ → FunctionRecord → Result ℕ Reason → Result Edit Reason
edit_by p at f (Ok old) = edit_from p at old f
edit_by p at f (Err reason) = Err reason

-- "records (name's 22, 3, all other 22, 34)": the edit of the record at at of the placed bytes
unfoldable pub edit_of : Patching → ℕ → Result Edit Reason
edit_of p at = edit_by p at (record_of p.placed at) (old_address_of p (record_of p.placed at))
