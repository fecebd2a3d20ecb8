-- Document 01: "Get returns status and result."
use Rattle.records.specs.Refusal.{Verdict}
use Rattle.std.specs.Prelude.{ℕ, List, Result, Ok, Err}
use Rattle.words.specs.Name.{is_found}
use Rattle.records.specs.Name.{is_name}
use Rattle.records.specs.Verdict.{must, ◌then◌, decide}
use Rattle.records.specs.declared.payload.Payload.{Payload}
use Rattle.records.specs.declared.refusal.Place.TheVariants.{Nowhere}
use Rattle.records.specs.declared.refusal.Refusal.{Refusal}
use Rattle.state.specs.Find.{with_name, payload_found}
use Rattle.state.specs.State.{result_word}
use Rattle.state.specs.declared.state.State.{State}
use Rattle.ranges.specs.Ranges.{in_range}
use Rattle.queries.specs.declared.get.Got.{Got}

-- "Get order: lent sizes, name, 2."
unfoldable pub get_rules : State → List ℕ → Verdict
get_rules s name =
    must (in_range s) 22 Nowhere
    then must (is_name name) 22 Nowhere
    then must (is_found (with_name s name)) 2 Nowhere

abbrev pub got : Payload → Got
got p = record { status = p.status; result = result_word p.result }

unfoldable pub get_of : State → List ℕ → Result Got Refusal
get_of s name = decide Err (Ok (got (payload_found s (with_name s name)))) (get_rules s name)
