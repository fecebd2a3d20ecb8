-- `kind_in` meets its contract.
use mathlib.Core.Path.{sym, ◌∙◌}
use native.Mathlib.Omega.{arith}
use Rattle.words.specs.Splice.{part}
use Rattle.words.proofs.Name.{FirstZero, zero-at}
use Rattle.elf.specs.Name.{name_in}
use Rattle.kinds.proofs.kind_in.Goals as goal
use Rattle.kinds.proofs.kind_in.Goals.{In-Some}

pub returns-in_default : goal.returns-in_default
unfolding name_in
returns-in_default c = simp (sym c.name_end.ensures, c.in_default.is)

-- the name ends at the first zero from its offset on
ends :
    (c : goal.In-Some) →
    let a = c.args in
    FirstZero a.table.now a.h.sh_name c.in-Some.end
ends c =
    zero-at _ _ _ (sym c.name_end.ensures ∙ c.in-Some.is)

pub slice_bounds-kind_named-count : goal.slice_bounds-kind_named-count
slice_bounds-kind_named-count c = omega (arith, ends c)

pub slice_bounds-kind_named-start : goal.slice_bounds-kind_named-start
slice_bounds-kind_named-start c = omega (arith, ends c)

pub slice_bounds-kind_named-end : goal.slice_bounds-kind_named-end
slice_bounds-kind_named-end c = omega (arith, ends c)

pub returns : goal.returns
unfolding name_in part
returns c = simp (sym c.name_end.ensures, c.in-Some.is) c.kind_named.ensures
