-- `in_family` meets its contract.
use mathlib.Core.Path.{sym}
use native.Mathlib.Omega.{arith}
use borrow.Author.Tests.{eq-eqb}
use Rattle.words.proofs.Tests.{held, refuted}
use Rattle.kinds.specs.Kinds.{in_family}
use Rattle.kinds.proofs.KindLaws.{long-enough, one_more, by-dot}
use Rattle.kinds.proofs.in_family.Goals as goal

pub returns-then-not-starts_with : goal.returns-then-not-starts_with
unfolding in_family
returns-then-not-starts_with c = simp (refuted c.starts_with.ensures c.if-not-starts_with.true)

pub returns-then-name-n : goal.returns-then-name-n
unfolding in_family
returns-then-name-n c = simp (held c.starts_with.ensures c.if-not-starts_with.false, eq-eqb _ _ c.if-name-n.true)

pub overflow_sub-name : goal.overflow_sub-name
overflow_sub-name c = long-enough _ _ (held c.starts_with.ensures c.if-not-starts_with.false)

pub returns-then-name-n-lt2 : goal.returns-then-name-n-lt2
returns-then-name-n-lt2 c = sym (one_more _ _ c.if-name-n.false (omega arith))

pub returns : goal.returns
returns c = sym (by-dot _ _ (held c.starts_with.ensures c.if-not-starts_with.false) (omega arith))
