-- The function records of a payload: each in its turn, then the pairs.
use Rattle.records.specs.Refusal.{Verdict}
use Rattle.records.specs.declared.refusal.Reason.{Reason}
use Rattle.std.specs.Prelude.{ℕ, ◌+◌, ◌*◌, List, Ok, Err, Result}
use Rattle.words.specs.Scan.{scan, filled}
use Rattle.records.specs.Limits.{records_max, record_size}
use Rattle.records.specs.Payload.{no_edit}
use Rattle.records.specs.Verdict.{refusal, ◌then◌, decide}
use Rattle.records.specs.declared.payload.Edit.{Edit}
use Rattle.records.specs.declared.refusal.Place.TheVariants.{Record}
use Rattle.records.specs.declared.refusal.Refusal.{Refusal}
use Rattle.functions.specs.Edits.{edit_of}
use Rattle.functions.specs.Pairs.{pair_rules}
use Rattle.functions.specs.Patching.{Patching}
use Rattle.functions.specs.declared.read.Functions.{Functions}

-- where record r begins, of those that begin at start of the placed bytes
abbrev pub record_at : ℕ → ℕ → ℕ
record_at start r = start + record_size * r

abbrev pub edit_at : Patching → ℕ → ℕ → Result Edit Reason
edit_at p start r = edit_of p (record_at start r)

abbrev pub edit_verdict : Result Edit Reason → ℕ → Verdict
edit_verdict (Ok e) r = Ok tt
edit_verdict (Err reason) r = Err (refusal reason (Record r))

abbrev pub made_of : Result Edit Reason → Edit
made_of (Ok e) = e
made_of (Err reason) = no_edit

abbrev pub one_record : Patching → ℕ → ℕ → Verdict → Verdict
one_record p start r rest = edit_verdict (edit_at p start r) r then rest

-- the edits of the first n records, in a table of `records_max`
abbrev pub edits_of : Patching → ℕ → ℕ → List Edit
edits_of p start n = filled (λ r. made_of (edit_at p start r)) no_edit records_max n

-- "records .., pairs"
unfoldable pub function_rules : Patching → ℕ → ℕ → Verdict
function_rules p start n = scan (one_record p start) (Ok tt) 0 n then pair_rules (edits_of p start n) n

-- what n function records ask for that keep the rules
abbrev pub accepted_functions : Patching → ℕ → ℕ → Functions
accepted_functions p start n = record { edits = edits_of p start n; count = n }

-- the answer for the n records that begin at start of the placed bytes
unfoldable pub functions_of : Patching → ℕ → ℕ → Result Functions Refusal
functions_of p start n = decide Err (Ok (accepted_functions p start n)) (function_rules p start n)
