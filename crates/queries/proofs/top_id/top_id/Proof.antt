-- `top_id::top_id` meets its contract: the hypervisor's id, or the part of the id store that the last applied payload's slot has.
use Prim.Native.Nat.{◌≤◌}
use native.Mathlib.Nat.{add-sub_cancel_left}
use native.Mathlib.Omega.{arith}
use borrow.Author.Rules.{rules}
use borrow.Author.Tests.{eq-eqb, ne_eqb}
use Rattle.words.specs.Splice.{part}
use Rattle.records.specs.Limits.{id_max}
use Rattle.state.proofs.Whole.{whole}
use Rattle.ranges.proofs.Laws.{InRange, in-range}
use Rattle.queries.specs.TopId.{top_id}
use Rattle.queries.proofs.TopIdLaws.{Top, top}
use Rattle.queries.proofs.top_id.top_id.Statement.{statement}
use Rattle.queries.proofs.top_id.top_id.Tie as tie

returns-then-state-eq0 : tie.Need-returns-then-state-eq0
unfolding top_id
returns-then-state-eq0 c = simp (eq-eqb _ _ c.if-state-eq0.true)

module _ (c : tie.Else-state-eq0) where
  ranges : InRange c.args.state
  ranges = in-range (whole c.args.state _ c.well_formed.0) c.requires.0

  applied : Top c.args.state
  applied = top _ ranges (omega arith)

-- its id is within its entry of the store
short : (c : tie.After-payload_in-payload) → c.payload_in-payload.result.id_length ≤ id_max
short c = rw c.payload_in-payload.ensures (applied c.before.before).id_max

returns : tie.Need-returns
unfolding top_id part
returns c = simp (ne_eqb _ _ c.if-state-eq0.false, c.payload_in-payload.ensures, add-sub_cancel_left)

offset_bounds-state-state : tie.Need-offset_bounds-state-state
offset_bounds-state-state c = omega (arith, (ranges c).few, (ranges c).shallow)

bounds-state-state : tie.Need-bounds-state-state
bounds-state-state c = omega (arith, (ranges c).few, (ranges c).shallow)

payload_in-payload-requires : tie.Need-payload_in-payload-requires
payload_in-payload-requires c κs = (ranges c.before).few

overflow_mul-start : tie.Need-overflow_mul-start
overflow_mul-start c = omega (arith, (applied c.before.before).slot)

overflow_add-end : tie.Need-overflow_add-end
overflow_add-end c = omega (arith, (applied c.before.before.before).slot)

slice_bounds-result-end : tie.Need-slice_bounds-result-end
slice_bounds-result-end c = omega (arith, (applied c.before.before.before).slot, short c.before)

pub top_id_spec : {M : Type 1} → statement M
top_id_spec =
    tie.close (tie.spec returns-then-state-eq0 (λ c. search rules) offset_bounds-state-state bounds-state-state payload_in-payload-requires (λ c. search rules) overflow_mul-start (λ c. search rules) overflow_add-end (λ c. search rules) (λ c. search rules) slice_bounds-result-end returns)
