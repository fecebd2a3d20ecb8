-- `is_named` meets its contract: the bytes up to the name's length are compared.
use mathlib.Core.Path.{sym}
use native.Mathlib.Omega.{arith}
use Rattle.state.proofs.Whole.{WholePayload, whole-payload, length-name}
use Rattle.names.proofs.is_named.Goals as goal
use Rattle.names.proofs.is_named.Goals.{Start}

kept : (c : goal.Start) → WholePayload c.args.payload
kept c = whole-payload c.args.payload _ c.well_formed.0

pub slice_bounds-kept-end : goal.slice_bounds-kept-end
slice_bounds-kept-end c = omega (arith, (kept (goal.at.slice_bounds-kept-end c).Start).name)

pub slice_bounds-same-end : goal.slice_bounds-same-end
slice_bounds-same-end c = sym (length-name (kept (goal.at.slice_bounds-same-end c).Start) (omega arith))
