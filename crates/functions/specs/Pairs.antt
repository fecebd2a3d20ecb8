-- Document 01: "The first pair of records whose edits touch a common byte refuses the payload, at the later record (lowest later record first)."
use Rattle.std.specs.Prelude.{ℕ, ◌+◌, Bool, false, cond, ◌&&◌, ◌||◌, List, ltb, get_or, Ok, Err}
use Rattle.words.specs.Scan.{scan}
use Rattle.records.specs.Payload.{no_edit}
use Rattle.records.specs.Verdict.{refusal}
use Rattle.records.specs.declared.payload.Edit.{Edit}
use Rattle.records.specs.Refusal.{reason_for, Verdict}
use Rattle.records.specs.declared.refusal.Place.TheVariants.{Record}

abbrev pub edit_in : List Edit → ℕ → Edit
edit_in es i = get_or es i no_edit

-- two edits touch a common byte
unfoldable pub touch : Edit → Edit → Bool
touch a b = ltb a.offset (b.offset + b.length) && ltb b.offset (a.offset + a.length)

-- one of the first n edits touches b
abbrev pub one_touch : List Edit → Edit → ℕ → Bool → Bool
one_touch es b i rest = touch (edit_in es i) b || rest

abbrev pub touched : List Edit → Edit → ℕ → Bool
touched es b n = scan (one_touch es b) false 0 n

-- record j touches an earlier one, or else what the later records give
abbrev pub one_pair : List Edit → ℕ → Verdict → Verdict
one_pair es j rest = cond (touched es (edit_in es j) j) (Err (refusal (reason_for 22) (Record j))) rest

unfoldable pub pair_rules : List Edit → ℕ → Verdict
pair_rules es n = scan (one_pair es) (Ok tt) 0 n
