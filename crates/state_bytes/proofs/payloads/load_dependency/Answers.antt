-- `payloads::load_dependency` meets its contract.
use Prim.Native.Nat.{◌+◌}
use native.Mathlib.Nat.{add-sub_cancel_left}
use native.Mathlib.Omega.{arith}
use Rattle.words.specs.Splice.{part}
use Rattle.records.specs.Limits.{id_max}
use Rattle.state_bytes.specs.Layout.{dependency_place}
use Rattle.state_bytes.proofs.Loads.{copied-part}
use Rattle.state_bytes.proofs.payloads.load_dependency.Goals as goal

pub returns : goal.returns
unfolding part
returns c = let a = c.args in
    let bytes = copied-part a.b.now (a.at + dependency_place) id_max 0 (omega arith) in
    rw (c.load4-length.ensures, c.copy.ensures, add-sub_cancel_left, bytes)
