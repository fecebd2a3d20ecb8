-- The edits that are laid, said of the stack and the job: what the sequence claim's parts speak of.
use Rattle.std.specs.Prelude.{ℕ, ◌-◌, min, List, [], ◌∷◌, ◌++◌, length, drop, Option, None, Some}
use Rattle.words.specs.Scan.{each}
use Rattle.model.specs.Model.{Loaded, Laid, Job, Model}
use Rattle.model.specs.Step.{payload_in, laid_from, removal_count}

-- the first n edits of a payload, the newest laid first
unfoldable pub first_edits : Loaded → ℕ → List Laid
first_edits p n = each (λ i. laid_from p (n - 1 - i)) 0 n

-- all edits of a payload
abbrev pub all_edits : Loaded → List Laid
all_edits p = first_edits p (length p.edits)

-- all edits of the payloads in these slots, the first slot's first
unfoldable pub stack_edits : Model → List ℕ → List Laid
stack_edits l [] = []
stack_edits l (slot ∷ older) = all_edits (payload_in l slot) ++ stack_edits l older

-- what is laid after the first k removals and layings of a job: of the applied payloads' edits, the newest are taken off first; then the
-- payload's own are laid in order
unfoldable pub done_after : Model → Job → ℕ → List Laid
done_after l j k =
    first_edits (payload_in l j.slot) (k - removal_count l j)
    ++ drop (min k (removal_count l j)) (stack_edits l l.stack)

-- what is laid now
abbrev pub expected : Model → Option Job → List Laid
expected l None = stack_edits l l.stack
expected l (Some j) = done_after l j j.steps
