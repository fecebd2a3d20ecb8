-- Document 01: "each work step makes one edit".
use Rattle.records.specs.Refusal.{Verdict}
use Rattle.std.specs.Prelude.{ℕ, ◌+◌, ◌<◌, ◌≤◌, ◌≡◌, Bool, cond, ◌&&◌, List, eqb, length, replicate, Ok, Err}
use Rattle.words.specs.Splice.{part, splice}
use Rattle.records.specs.Limits.{records_max}
use Rattle.records.specs.Verdict.{must, ◌then◌, decide}
use Rattle.records.specs.declared.refusal.Place.TheVariants.{Nowhere}
use Rattle.machine.specs.Host.{machine_of}
use Rattle.machine.specs.Machine.{Machine, edit_max, edit_bytes}
use Rattle.memory.specs.Memory.{slot_count, undo_at, undo_size}
use Rattle.state.specs.State.{is_standing}
use Rattle.state.specs.declared.state.Called.{Called}
use Rattle.state.specs.declared.state.State.{State}
use Rattle.state.specs.declared.steps.Step.{Step}
use Rattle.ranges.specs.Ranges.{in_range}
use Rattle.rendezvous.specs.Rendezvous.{is_complete}
use Rattle.steps.specs.Next.{step_now, worked}

-- what a work step is lent besides the state: text and undo store, which it writes
pub record Lent : Type 0 where
  pub text : List ℕ
  pub undo : List ℕ

abbrev pub lent : List ℕ → List ℕ → Lent
lent text undo = record { text = text; undo = undo }

-- the numbers of the state and the lent sizes are right
unfoldable pub work_sizes_ok : State → ℕ → ℕ → Bool
work_sizes_ok s text undo = in_range s && eqb text s.config.text_length && eqb undo undo_size

-- "Work order: 22, then 16."
unfoldable pub work_rules : State → Lent → Verdict
work_rules s l =
    must (work_sizes_ok s (length l.text) (length l.undo)) 22 Nowhere
    then must (is_standing s.job) 22 Nowhere
    then must (is_complete s) 16 Nowhere

-- ---- one edit

-- "the saved bytes, then zeros"
abbrev pub undo_record : List ℕ → List ℕ
undo_record saved = splice (replicate edit_max 0) 0 saved

-- an edit laid: the bytes that it covers are saved
unfoldable pub laid : Machine → Step → Lent → Lent
laid m k l =
    lent (splice l.text k.edit.offset (edit_bytes m k.edit))
    (splice l.undo (undo_at k.slot k.number) (undo_record (part l.text k.edit.offset k.edit.length)))

-- an edit taken off: the saved bytes are put back; "all zero unless laid"
unfoldable pub taken_off : Step → Lent → Lent
taken_off k l =
    lent (splice l.text k.edit.offset (part l.undo (undo_at k.slot k.number) k.edit.length))
    (splice l.undo (undo_at k.slot k.number) (replicate edit_max 0))

abbrev pub made : Machine → Step → Lent → Lent
made m k l = cond k.lays (laid m k l) (taken_off k l)

-- what an edit needs: its bytes lie in the text and are as many as it says, and its undo record lies in the store
pub record Ready (m : Machine) (k : Step) (l : Lent) : Type 0 where
  pub slot : k.slot < slot_count
  pub number : k.number < records_max
  pub inside : k.edit.offset + k.edit.length ≤ length l.text
  pub bytes : length (edit_bytes m k.edit) ≡ k.edit.length
  pub short : k.edit.length ≤ edit_max
  pub store : length l.undo ≡ undo_size

-- ---- the call: the answer, the state, and what text and undo store then hold

pub record Worked : Type 0 where
  pub answer : Verdict
  pub state : State
  pub after : Lent

abbrev pub worked_with : Called → Lent → Worked
worked_with r after = record { answer = r.verdict; state = r.state; after = after }

unfoldable pub work_of : State → Lent → Worked
work_of s l =
    decide (λ r. record { answer = Err r; state = s; after = l })
    (record { answer = Ok tt; state = worked s; after = made (machine_of s.config.processor) (step_now s) l })
    (work_rules s l)
