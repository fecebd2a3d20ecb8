-- What a job does, one edit for each work step.
use Rattle.std.specs.Prelude.{ℕ, ◌-◌, Bool, true, false, cond, ◌||◌, List, [], ◌∷◌, ◌++◌, reverse, eqb, length, get_or}
use Rattle.words.specs.Scan.{each}
use Rattle.records.specs.Payload.{no_edit}
use Rattle.records.specs.declared.payload.Payload.{Payload}
use Rattle.state.specs.Find.{payload_in}
use Rattle.state.specs.State.{revert, apply, replace, stack_of}
use Rattle.state.specs.declared.state.State.{State}
use Rattle.state.specs.declared.steps.Step.{Step}

-- the step that lays a record's edit, or takes it off
abbrev pub step_for : Bool → Payload → ℕ → Step
step_for lays p r = record { lays = lays; slot = p.slot; number = r; edit = get_or p.edits r no_edit }

-- "apply and replace lay records in order"
unfoldable pub layings : Payload → List Step
layings p = each (step_for true p) 0 p.edit_count

-- "last record first"
unfoldable pub removals : Payload → List Step
removals p = each (λ k. step_for false p (p.edit_count - 1 - k)) 0 p.edit_count

-- "newest payload first": the removals of the payloads in these slots, the first slot's first
unfoldable pub removals_in : State → List ℕ → List Step
removals_in s [] = []
removals_in s (slot ∷ older) = removals (payload_in s slot) ++ removals_in s older

-- "revert and replace take edits off": revert its payload's, replace those of every applied one
unfoldable pub removing : State → List Step
removing s =
    cond (eqb s.job.action revert) (removals (payload_in s s.job.slot))
    (cond (eqb s.job.action replace) (removals_in s (reverse (stack_of s)))
    [])

unfoldable pub laying : State → List Step
laying s = cond (eqb s.job.action apply || eqb s.job.action replace) (layings (payload_in s s.job.slot)) []

-- "Removals .. precede layings; work step k does the k-th."
abbrev pub steps_of : State → List Step
steps_of s = removing s ++ laying s

abbrev pub step_count : State → ℕ
step_count s = length (steps_of s)
