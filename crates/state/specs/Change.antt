-- One payload of the state changed.
use Rattle.std.specs.Prelude.{ℕ, set, Some, None, Option}
use Rattle.records.specs.declared.payload.Payload.{Payload}
use Rattle.state.specs.Find.{with_slot, payload_at}
use Rattle.state.specs.State.{with_payloads}
use Rattle.state.specs.declared.state.State.{State}

-- the payload at a place in the list, changed by f
abbrev pub changed_at : (Payload → Payload) → State → ℕ → State
changed_at f s i = with_payloads (set s.payloads i (f (payload_at s i))) s

abbrev pub changed_found : (Payload → Payload) → State → Option ℕ → State
changed_found f s (Some i) = changed_at f s i
changed_found f s None = s

-- the payload in a slot
unfoldable pub changed_in : (Payload → Payload) → State → ℕ → State
changed_in f s slot = changed_found f s (with_slot s slot)
