-- `payloads::load_payloads` meets its contract: the first `i` elements are the first `i` payloads.
use Prim.Native.Nat.{◌+◌, ◌*◌}
use mathlib.Core.Path.{◌≡◌}
use Rattle.words.specs.Scan.{filled}
use Rattle.records.specs.Payload.{empty}
use Rattle.memory.specs.Memory.{slot_count}
use Rattle.state_bytes.specs.Layout.{payload_size, payloads_place}
use Rattle.state_bytes.specs.Stored.{payload_at}
use Rattle.state_bytes.proofs.payloads.load_payloads.Given as goal

abbrev pub invariant-loop-i : goal.invariant-loop-i
invariant-loop-i l = l.payload-items ≡ filled (λ j. payload_at l.b (payloads_place + payload_size * j)) empty slot_count l.i
