-- `find::with_name` meets its contract: what is found from payload `i` on is what is found from the first on.
use Prim.Native.Nat.{◌≤◌, ◌<◌}
use mathlib.Core.Path.{◌≡◌, refl, sym, ◌∙◌}
use native.Mathlib.Omega.{arith}
use lib.ListN.{length, get_or}
use Rattle.words.proofs.Find.{where-turn, where-end}
use Rattle.records.specs.Payload.{empty}
use Rattle.state.specs.Find.{is_named, with_name}
use Rattle.state.specs.declared.state.State.{State}
use Rattle.ranges.proofs.Laws.{InRange}
use Rattle.state_bytes.specs.Stored.{state_in}
use Rattle.state_bytes.proofs.Laws.{whole_in}
use Rattle.in_place.proofs.Laws.{ranges-of}
use Rattle.in_place.proofs.find.with_name.Goals as goal
use Rattle.in_place.proofs.find.with_name.Goals.{Start, In-loop-i, After-is_named}

module _ (c : goal.Start) where
  abbrev state-of : State
  state-of = state_in c.args.b.now

  ranges : InRange state-of
  ranges = ranges-of _ c.requires.0 c.requires.1

  many : state-of.count ≤ length state-of.payloads
  many = omega (arith, ranges.few, (whole_in c.args.b.now c.requires.0).payloads)

pub loop-i-init : goal.loop-i-init
unfolding with_name
loop-i-init c = refl

-- payload `i` is loaded
inside : (c : goal.In-loop-i) → c.loop-i.i < (state_in c.args.b.now).count
inside c = omega (arith, c.loop-i-test.true, c.count-count.ensures)

-- the test of it
tested : (c : goal.After-is_named) → c.is_named.result ≡ is_named c.args.name.now (get_or (state_in c.args.b.now).payloads c.loop-i.i empty)
tested c = c.is_named.ensures ∙ rw c.payload.ensures

pub returns-then-is_named : goal.returns-then-is_named
returns-then-is_named c = let p = goal.at.returns-then-is_named c in
    sym (c.loop-i.invariant ∙ where-turn _ _ _ _ (many p.Start) empty (inside p.In-loop-i) ∙ rw (← tested p.After-is_named, c.if-is_named.true))

pub loop-i-preserved : goal.loop-i-preserved
loop-i-preserved c = let p = goal.at.loop-i-preserved c in
    c.loop-i.invariant ∙ where-turn _ _ _ _ (many p.Start) empty (inside p.In-loop-i) ∙ rw (← tested p.After-is_named, c.if-is_named.false)

pub returns : goal.returns
returns c = let all : (state_in c.args.b.now).count ≤ c.loop-i.i = omega (arith, c.loop-i-test.false, c.count-count.ensures) in
    sym (c.loop-i.invariant ∙ where-end _ _ _ _ (many (goal.at.returns c).Start) all)

pub payload-requires : goal.payload-requires
payload-requires c = let p = goal.at.payload-requires c in
    (c.requires.0, omega (arith, inside p.In-loop-i, (ranges p.Start).few))

pub is_named-requires : goal.is_named-requires
is_named-requires c = let p = goal.at.is_named-requires c in
    rw c.payload.ensures ((ranges p.Start).payloads _ (inside p.In-loop-i)).named
