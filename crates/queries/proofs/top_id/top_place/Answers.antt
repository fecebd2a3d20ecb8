-- `top_id::top_place` meets its contract: the hypervisor's id, or the part of the id store that the last applied payload's slot has.
use native.Mathlib.Omega.{arith}
use borrow.Author.Tests.{eq-eqb, ne_eqb}
use Rattle.state.proofs.Whole.{whole}
use Rattle.ranges.proofs.Laws.{InRange, in-range}
use Rattle.queries.specs.TopId.{top_place}
use Rattle.queries.proofs.TopIdLaws.{Top, top}
use Rattle.queries.proofs.top_id.top_place.Goals as goal
use Rattle.queries.proofs.top_id.top_place.Goals.{Else-state-eq0}

pub returns-then-state-eq0 : goal.returns-then-state-eq0
unfolding top_place
returns-then-state-eq0 c = simp (eq-eqb _ _ c.if-state-eq0.true)

module _ (c : goal.Else-state-eq0) where
  ranges : InRange c.args.state
  ranges = in-range (whole c.args.state _ c.well_formed.0) c.requires

  applied : Top c.args.state
  applied = top _ ranges (omega arith)

pub returns : goal.returns
unfolding top_place
returns c = simp (ne_eqb _ _ c.if-state-eq0.false, c.payload_in-payload.ensures)

pub offset_bounds-state-state : goal.offset_bounds-state-state
offset_bounds-state-state c = omega (arith, (ranges c).few, (ranges c).shallow)

pub bounds-state-state : goal.bounds-state-state
bounds-state-state c = omega (arith, (ranges c).few, (ranges c).shallow)

pub payload_in-payload-requires : goal.payload_in-payload-requires
payload_in-payload-requires c = (ranges (goal.at.payload_in-payload-requires c).Else-state-eq0).few

pub overflow_mul-result : goal.overflow_mul-result
overflow_mul-result c = omega (arith, (applied (goal.at.overflow_mul-result c).Else-state-eq0).slot)
