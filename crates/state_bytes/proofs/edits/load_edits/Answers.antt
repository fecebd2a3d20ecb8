-- `edits::load_edits` meets its contract: the first `i` elements are the first `i` edits.
use mathlib.Core.Path.{◌≡◌, ap, ◌∙◌}
use native.Mathlib.Omega.{arith}
use lib.ListN.{replicate}
use Rattle.words.proofs.Scan.{fill-begin, fill-turn}
use Rattle.records.specs.Limits.{records_max}
use Rattle.records.specs.Payload.{no_edit}
use Rattle.state_bytes.proofs.Loads.{filled-rows}
use Rattle.state_bytes.proofs.edits.load_edits.Goals as goal

pub loop-i-init : goal.loop-i-init
loop-i-init c = ap (replicate records_max) c.none-none.ensures ∙ fill-begin _ _ _

pub loop-i-preserved : goal.loop-i-preserved
loop-i-preserved c =
    rw (c.loop-i.invariant, c.load_edit.ensures) (fill-turn _ no_edit records_max _ (omega arith))

pub returns : goal.returns
returns c = let all : c.loop-i.i ≡ records_max = omega arith in
    rw (c.loop-i.invariant, all) (filled-rows _ _ _ _ _ _)
