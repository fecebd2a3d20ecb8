-- `payloads::load_payloads` meets its contract: the first `i` elements are the first `i` payloads.
use mathlib.Core.Path.{◌≡◌, ap, ◌∙◌}
use native.Mathlib.Omega.{arith}
use lib.ListN.{replicate}
use Rattle.words.proofs.Scan.{fill-begin, fill-turn}
use Rattle.records.specs.Payload.{empty}
use Rattle.memory.specs.Memory.{slot_count}
use Rattle.state_bytes.proofs.Loads.{filled-rows}
use Rattle.state_bytes.proofs.payloads.load_payloads.Goals as goal

pub loop-i-init : goal.loop-i-init
loop-i-init c = ap (replicate slot_count) c.empty-none.ensures ∙ fill-begin _ _ _

pub loop-i-preserved : goal.loop-i-preserved
loop-i-preserved c =
    rw (c.loop-i.invariant, c.load_payload.ensures) (fill-turn _ empty slot_count _ (omega arith))

pub returns : goal.returns
returns c = let all : c.loop-i.i ≡ slot_count = omega arith in
    rw (c.loop-i.invariant, all) (filled-rows _ _ _ _ _ _)
