-- A list of all that is loaded has at most as many entries as there are slots.
use Rattle.records.specs.Refusal.{Verdict}
use Rattle.std.specs.Prelude.{IfOk}
use Rattle.std.proofs.Common.{◌-◌, ◌≤◌, Ok, Err}
use native.Mathlib.Nat.{min-le_left}
use Rattle.records.specs.Verdict.{decide}
use Rattle.memory.specs.Memory.{slot_count}
use Rattle.state.specs.declared.state.State.{State}
use Rattle.listing.specs.List.{Buffers, listing, accepted_list, written_over, listed_payloads, list_rules, list_of}

few-if :
    (s : State) (b : Buffers) (v : Verdict) →
    IfOk
    (decide (λ r. listing (Err r) b) (listing (Ok (accepted_list s 0 slot_count)) (written_over (listed_payloads s 0 slot_count) b)) v
    ).answer
    (λ x. x.written ≤ slot_count)
few-if s b (Ok _) = min-le_left slot_count (s.count - 0)
few-if s b (Err r) = tt

pub few-listed : (s : State) (b : Buffers) → IfOk (list_of s 0 slot_count b).answer (λ x. x.written ≤ slot_count)
unfolding list_of
few-listed s b = few-if s b (list_rules s 0 slot_count b)
