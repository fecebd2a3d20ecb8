-- `payloads::load_name` meets its contract.
use native.Mathlib.Nat.{add-sub_cancel_left}
use native.Mathlib.Omega.{arith}
use Rattle.words.specs.Splice.{part}
use Rattle.records.specs.Limits.{name_max}
use Rattle.state_bytes.proofs.Loads.{copied-part}
use Rattle.state_bytes.proofs.payloads.load_name.Goals as goal

pub returns : goal.returns
unfolding part
returns c = let a = c.args in
    rw (c.copy.ensures, add-sub_cancel_left) (copied-part a.b.now a.at name_max 0 (omega arith))
