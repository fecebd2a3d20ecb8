-- `find_from` meets its contract: what is left to find from the entry at `at` on, after the entries compared before, is what is found.
use Rattle.std.proofs.Common.{◌≡◌, None, ap, sym, ◌∙◌, arith}
use Rattle.words.specs.Order.{order_of, less}
use Rattle.words.proofs.Order.{compared-order, equal-order}
use Rattle.words.proofs.Tests.{refuted, held}
use Rattle.symbols.specs.SymbolList.{name_at, whole_at}
use Rattle.symbols.proofs.Laws.{Read, answer, read-broken, read_whole, search-begin, search-end, search-broken, search-further, search-stop}
use Rattle.symbols.proofs.find_from.Goals as goal
use Rattle.symbols.proofs.find_from.Goals.{In-Some, After-smaller}

pub loop-compared-init : goal.loop-compared-init
loop-compared-init c = search-begin _ _ _

pub returns-in_default : goal.returns-in_default
returns-in_default c = sym
    (c.loop-compared.invariant
    ∙ search-broken _ _ _ _ _ c.loop-compared-test.true (read-broken _ _ _ c.whole_at.ensures c.in_default.is))

-- what `whole_at` found
read : (c : goal.In-Some) → Read (whole_at c.args.list.now c.loop-compared.at) c.args.list.now c.loop-compared.at c.in-Some.name_length
read c = read_whole _ _ c.whole_at.ensures c.in-Some.is

pub overflow_add-start : goal.overflow_add-start
overflow_add-start c = omega (arith, (read (goal.at.overflow_add-start c).In-Some).inside)

pub overflow_add-end : goal.overflow_add-end
overflow_add-end c = omega (arith, (read (goal.at.overflow_add-end c).In-Some).inside)

pub slice_bounds-compare-end : goal.slice_bounds-compare-end
slice_bounds-compare-end c = omega (arith, (read (goal.at.slice_bounds-compare-end c).In-Some).inside)

pub found_at-requires : goal.found_at-requires
found_at-requires c = omega (arith, (read (goal.at.found_at-requires c).In-Some).inside)

-- how the entry's name stands to the name sought, and whether it is smaller
module _ (c : goal.After-smaller) (r : Read (whole_at c.args.list.now c.loop-compared.at) c.args.list.now c.loop-compared.at c.in-Some.name_length) where
  order : c.compare-comparison.result.order ≡ order_of (name_at c.args.list.now c.loop-compared.at) c.args.name.now
  order = compared-order _ _ (rw r.name at c.compare-comparison.ensures)

  is-less : c.smaller.result ≡ less (name_at c.args.list.now c.loop-compared.at) c.args.name.now
  unfolding less
  is-less = rw (← order) c.smaller.ensures

pub returns-then-not-smaller : goal.returns-then-not-smaller
returns-then-not-smaller c =
    let here = goal.at.returns-then-not-smaller c in
    let r = read here.In-Some in
    let found = rw (order here.After-smaller r, ← equal-order (name_at c.args.list.now c.loop-compared.at) c.args.name.now) at c.found_at.ensures in
    sym
    (c.loop-compared.invariant
    ∙ search-stop _ _ _ _ _ c.loop-compared-test.true r.holds (refuted (is-less here.After-smaller r) c.if-not-smaller.true)
    ∙ rw (← found))

pub loop-compared-preserved : goal.loop-compared-preserved
loop-compared-preserved c =
    let here = goal.at.loop-compared-preserved c in
    let r = read here.In-Some in
    c.loop-compared.invariant
    ∙ search-further _ _ _ _ _ c.loop-compared-test.true r.holds (held (is-less here.After-smaller r) c.if-not-smaller.false)
    ∙ rw r.long

pub returns : goal.returns
returns c = sym (c.loop-compared.invariant ∙ search-end _ _ _ _ _ (omega arith) ∙ ap (answer None) (omega arith))
