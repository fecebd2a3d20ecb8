-- `with_name` meets its contract: what is found from payload `i` on is what is found from the first on.
use Prim.Native.Nat.{◌≤◌, ◌<◌}
use mathlib.Core.Path.{refl, sym, ◌∙◌}
use native.Mathlib.Omega.{arith}
use lib.ListN.{length}
use Rattle.words.proofs.Find.{where-turn, where-end}
use Rattle.memory.specs.Memory.{slot_count}
use Rattle.state.specs.Find.{with_name}
use Rattle.state.proofs.Whole.{Whole, no_copy, whole, copied-payload}
use Rattle.ranges.proofs.Laws.{InRange, in-range}
use Rattle.names.proofs.with_name.Goals as goal
use Rattle.names.proofs.with_name.Goals.{Start}

module _ (c : goal.Start) where
  all_whole : Whole c.args.state
  all_whole = whole c.args.state _ c.well_formed.0

  ranges : InRange c.args.state
  ranges = in-range all_whole c.requires

  many : c.args.state.count ≤ length c.args.state.payloads
  many = omega (arith, all_whole.payloads, ranges.few)

pub loop-i-init : goal.loop-i-init
unfolding with_name
loop-i-init c = refl

pub is_named-requires : goal.is_named-requires
is_named-requires c = let i = c.loop-i.i in
    let below : i < slot_count = omega (arith, (ranges (goal.at.is_named-requires c).Start).few) in
    rw (copied-payload (all_whole (goal.at.is_named-requires c).Start) i below) ((ranges (goal.at.is_named-requires c).Start).payloads i c.loop-i-test.true).named

pub returns-then-is_named : goal.returns-then-is_named
returns-then-is_named c = sym
    (c.loop-i.invariant
    ∙ where-turn _ _ _ _ (many (goal.at.returns-then-is_named c).Start) no_copy c.loop-i-test.true
    ∙ rw (← c.is_named.ensures, c.if-is_named.true))

pub loop-i-preserved : goal.loop-i-preserved
loop-i-preserved c = c.loop-i.invariant
    ∙ where-turn _ _ _ _ (many (goal.at.loop-i-preserved c).Start) no_copy c.loop-i-test.true
    ∙ rw (← c.is_named.ensures, c.if-is_named.false)

pub returns : goal.returns
returns c = sym (c.loop-i.invariant ∙ where-end _ _ _ _ (many (goal.at.returns c).Start) c.loop-i-test.false)

pub offset_bounds-state-i : goal.offset_bounds-state-i
offset_bounds-state-i c = omega (arith, (ranges (goal.at.offset_bounds-state-i c).Start).few)

pub bounds-state-i : goal.bounds-state-i
bounds-state-i c = omega (arith, (ranges (goal.at.bounds-state-i c).Start).few)
