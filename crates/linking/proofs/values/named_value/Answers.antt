-- `named_value` meets its contract: the name is the bytes before the first zero at or after its start.
use Rattle.std.proofs.Common.{◌≡◌, arith}
use Rattle.words.specs.Splice.{part}
use Rattle.symbols.proofs.Laws.{search-found}
use Rattle.elf.specs.Name.{name_in}
use Rattle.elf.proofs.Laws.{Cut, name-found, name-missing}
use Rattle.linking.specs.Symbols.{symbol_found, named_value}
use Rattle.linking.proofs.values.named_value.Goals as goal
use Rattle.linking.proofs.values.named_value.Goals.{In-Some, After-find-search}

pub returns-in_default : goal.returns-in_default
returns-in_default c = rw (name-missing _ _ c.name_end.ensures c.in_default.is)

-- the name, where its end was found
cut : (c : goal.In-Some) → Cut c.args.strings.now c.args.name c.in-Some.end
cut c = name-found _ _ c.name_end.ensures c.in-Some.is

pub slice_bounds-find-count : goal.slice_bounds-find-count
slice_bounds-find-count c = omega (arith, (cut (goal.at.slice_bounds-find-count c).In-Some).low)

pub slice_bounds-find-start : goal.slice_bounds-find-start
slice_bounds-find-start c = omega (arith, (cut (goal.at.slice_bounds-find-start c).In-Some).low)

pub slice_bounds-find-end : goal.slice_bounds-find-end
slice_bounds-find-end c = omega (arith, (cut (goal.at.slice_bounds-find-end c).In-Some).high)

-- the name is looked up
looked-up :
    (c : goal.After-find-search) →
    let a = c.args in
    named_value a.weak a.list.now (name_in a.strings.now a.name) ≡ symbol_found a.weak c.find-search.result.found
unfolding part
looked-up c = rw ((cut (goal.at.After-find-search c).In-Some).name, search-found _ _ c.find-search.ensures)

pub returns-in-Some-found : goal.returns-in-Some-found
returns-in-Some-found c = rw (looked-up (goal.at.returns-in-Some-found c).After-find-search, c.in-Some-found.is)

pub returns-in-None : goal.returns-in-None
returns-in-None c = rw (looked-up (goal.at.returns-in-None c).After-find-search, c.in-None.is, c.if-weak.true)

pub returns-in-None-2 : goal.returns-in-None-2
returns-in-None-2 c = rw (looked-up (goal.at.returns-in-None-2 c).After-find-search, c.in-None-2.is, c.if-weak.false)
