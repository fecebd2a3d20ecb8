-- What a call over the records buffer returns and leaves: 0 or the refusal in one number, the records, and the memory that it was lent besides.
use Rattle.std.specs.Prelude.{ℕ, ◌≡◌, true, cond, List}
use Rattle.records.specs.Refusal.{refusal_code, verdict_code, Verdict}
use Rattle.records.specs.Verdict.{refusal}
use Rattle.records.specs.declared.refusal.Place.TheVariants.{Nowhere}
use Rattle.records.specs.declared.refusal.Reason.TheVariants.{Invalid}
use Rattle.state.specs.declared.state.State.{State}
use Rattle.state_bytes.specs.Stored.{bytes_of, is_state, HoldsState}

pub record Told (M : Type 0) : Type 0 where
  pub answer : ℕ
  pub records : List ℕ
  pub memory : M

abbrev pub told : {M : Type 0} → ℕ → List ℕ → M → Told M
told answer records memory = record { answer = answer; records = records; memory = memory }

-- 22, nowhere
abbrev pub invalid : ℕ
invalid = refusal_code (refusal Invalid Nowhere)

-- what a call on a state answered and left, as number and bytes
abbrev pub stored : {M : Type 0} → Verdict → State → M → Told M
stored verdict state memory = told (verdict_code verdict) (bytes_of state) memory

-- bytes that are no state get 22, and nothing is changed
abbrev pub over_records : {M : Type 0} → List ℕ → M → Told M → Told M
over_records b memory call = cond (is_state b) call (told invalid b memory)

-- records that were a state's hold the state after the call
abbrev pub RecordsKept : List ℕ → State → List ℕ → Type 0
RecordsKept before state after = is_state before ≡ true → HoldsState state after
