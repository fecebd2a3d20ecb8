-- `named_address` meets its contract: the name is the bytes before the first zero.
use Rattle.std.proofs.Common.{◌≡◌, sym, ◌∙◌, arith}
use borrow.Author.Tests.{le-leb, lt-leb}
use Rattle.words.specs.Splice.{part}
use Rattle.symbols.proofs.Laws.{search-found}
use Rattle.elf.specs.Name.{name_in}
use Rattle.elf.proofs.Laws.{Cut, name-found, name-missing}
use Rattle.functions.specs.Records.{function_found, named_address}
use Rattle.functions.proofs.function.named_address.Goals as goal
use Rattle.functions.proofs.function.named_address.Goals.{In-Some, After-find-search}

pub returns-in_default : goal.returns-in_default
returns-in_default c = rw (name-missing _ _ c.name_end.ensures c.in_default.is)

-- the name, where its end was found
cut : (c : goal.In-Some) → Cut c.args.placed.now c.args.start c.in-Some.end
cut c = name-found _ _ c.name_end.ensures c.in-Some.is

pub overflow_sub-end : goal.overflow_sub-end
overflow_sub-end c = omega (arith, (cut (goal.at.overflow_sub-end c).In-Some).low)

pub returns-then-end-first-lt1 : goal.returns-then-end-first-lt1
returns-then-end-first-lt1 c = let name = cut (goal.at.returns-then-end-first-lt1 c).In-Some in
    rw (name.name, name.size, lt-leb _ _ c.if-end-first-lt1.true)

pub returns-then-end-first-gt-NAME_MAX : goal.returns-then-end-first-gt-NAME_MAX
returns-then-end-first-gt-NAME_MAX c = let name = cut (goal.at.returns-then-end-first-gt-NAME_MAX c).In-Some in
    rw (name.name, name.size, le-leb _ _ c.if-end-first-lt1.false, lt-leb _ _ c.if-end-first-gt-NAME_MAX.true)

pub slice_bounds-find-end : goal.slice_bounds-find-end
slice_bounds-find-end c = omega (arith, (cut (goal.at.slice_bounds-find-end c).In-Some).high)

-- a name of the right length is looked up
looked-up :
    (c : goal.After-find-search) →
    let a = c.args in
    named_address a.list.now (name_in a.placed.now a.start) ≡ function_found c.find-search.result.found
unfolding part
looked-up c =
    let name = cut (goal.at.After-find-search c).In-Some in
    rw (name.name, name.size, le-leb _ _ c.if-end-first-lt1.false, le-leb _ _ c.if-end-first-gt-NAME_MAX.false, search-found _ _ c.find-search.ensures)

pub returns-in-Some-found : goal.returns-in-Some-found
returns-in-Some-found c = sym (looked-up (goal.at.returns-in-Some-found c).After-find-search ∙ rw c.in-Some-found.is)

pub returns-in-None : goal.returns-in-None
returns-in-None c = sym (looked-up (goal.at.returns-in-None c).After-find-search ∙ rw c.in-None.is)
