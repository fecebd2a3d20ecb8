-- The outline of a state: all that its stack and its job are checked by.
use Rattle.std.specs.Prelude.{ℕ, ◌<◌, ◌≡◌, length, get_or}
use Rattle.memory.specs.Memory.{slot_count}
use Rattle.state.specs.Find.{payload_at}
use Rattle.state.specs.declared.state.State.{State}
use Rattle.outlines.specs.declared.outline.Outline.{Outline}

-- o is the outline of s, a state whose arrays have their lengths: how many payloads it has loaded, the slot and the number of edits of each,
-- its stack, and the numbers of its job
pub record Outlines (o : Outline) (s : State) : Type 0 where
  pub listed : length s.payloads ≡ slot_count
  pub stacked : length s.stack ≡ slot_count
  pub count : o.count ≡ s.count
  pub slots : (i : ℕ) → i < s.count → get_or o.slots i 0 ≡ (payload_at s i).slot
  pub edits : (i : ℕ) → i < s.count → get_or o.edits i 0 ≡ (payload_at s i).edit_count
  pub depth : o.depth ≡ s.depth
  pub stack : o.stack ≡ s.stack
  pub action : o.action ≡ s.job.action
  pub slot : o.slot ≡ s.job.slot
  pub time : o.time ≡ s.job.time
  pub steps : o.steps ≡ s.job.steps
