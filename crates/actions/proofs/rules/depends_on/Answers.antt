-- `rules::depends_on` meets its contract: the bytes up to the dependency's length are compared, and the length.
use Rattle.std.proofs.Common.{sym, arith, length-take-le}
use Rattle.state.proofs.Whole.{WholePayload, whole-payload}
use Rattle.actions.proofs.rules.depends_on.Goals as goal
use Rattle.actions.proofs.rules.depends_on.Goals.{Start}

kept : (c : goal.Start) → WholePayload c.args.payload
kept c = whole-payload c.args.payload _ c.well_formed.0

pub slice_bounds-kept-end : goal.slice_bounds-kept-end
slice_bounds-kept-end c = omega (arith, (kept (goal.at.slice_bounds-kept-end c).Start).dependency)

pub slice_bounds-same-end : goal.slice_bounds-same-end
slice_bounds-same-end c = sym (length-take-le c.args.payload.dependency.length c.args.payload.dependency.bytes (omega (arith, (kept (goal.at.slice_bounds-same-end c).Start).dependency)))
