-- `entries_rise` meets its contract: the entries from `at` on, after the last name, say what all say.
use Rattle.std.proofs.Common.{◌≡◌, ◌-◌, sym, ◌∙◌, arith}
use Rattle.symbols.specs.SymbolList.{entry_at}
use Rattle.symbols.proofs.Laws.{Read, read-broken, read-entry, entries-turn, entries-end}
use Rattle.symbols.proofs.entries_rise.Goals as goal
use Rattle.symbols.proofs.entries_rise.Goals.{In-Some}

pub loop-init : goal.loop-init
loop-init c = let all : c.args.count - 0 ≡ c.args.count = omega arith in
    (omega arith, omega arith, rw all)

pub returns-in_default : goal.returns-in_default
returns-in_default c = sym
    (c.loop.invariant.2
    ∙ entries-turn _ _ _ _ _ c.loop-test.true
    ∙ rw (read-broken (entry_at c.args.list.now c.loop.at) _ _ c.entry_at.ensures c.in_default.is))

-- what `entry_at` found
read : (c : goal.In-Some) → Read (entry_at c.args.list.now c.loop.at) c.args.list.now c.loop.at c.in-Some.name_length
read c = read-entry _ _ c.entry_at.ensures c.in-Some.is

pub overflow_add-start : goal.overflow_add-start
overflow_add-start c = omega (arith, (read (goal.at.overflow_add-start c).In-Some).inside)

pub overflow_add-end : goal.overflow_add-end
overflow_add-end c = omega (arith, (read (goal.at.overflow_add-end c).In-Some).inside)

pub slice_bounds-rises-end-in-loop : goal.slice_bounds-rises-end-in-loop
slice_bounds-rises-end-in-loop c = omega (arith, (read (goal.at.slice_bounds-rises-end-in-loop c).In-Some).inside)

pub returns-then-not-rises : goal.returns-then-not-rises
returns-then-not-rises c =
    let r = read (goal.at.returns-then-not-rises c).In-Some in
    let rises = rw r.name at c.rises.ensures in
    sym
    (c.loop.invariant.2
    ∙ entries-turn _ _ _ _ _ c.loop-test.true
    ∙ rw (r.holds, ← rises, c.if-not-rises.true))

pub loop-preserved : goal.loop-preserved
loop-preserved c =
    let r = read (goal.at.loop-preserved c).In-Some in
    let rises = rw r.name at c.rises.ensures in (
      omega (arith, r.inside),
      omega (arith, r.inside),
      c.loop.invariant.2
          ∙ entries-turn _ _ _ _ _ c.loop-test.true
          ∙ rw (r.holds, ← rises, c.if-not-rises.false, r.long, r.name),
    )

pub returns : goal.returns
returns c = sym (c.loop.invariant.2 ∙ entries-end _ _ _ _ _ c.loop-test.false)
