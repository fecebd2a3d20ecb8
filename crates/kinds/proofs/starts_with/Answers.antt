-- `starts_with` meets its contract.
use mathlib.Core.Path.{sym}
use lib.Seq.{length-take-le}
use Rattle.kinds.specs.Kinds.{starts_with}
use Rattle.kinds.proofs.KindLaws.{too_short}
use Rattle.kinds.proofs.starts_with.Goals as goal

pub returns-then-name-n : goal.returns-then-name-n
returns-then-name-n c = sym (too_short _ _ c.if-name-n.true)

pub slice_bounds-same-end : goal.slice_bounds-same-end
slice_bounds-same-end c = sym (length-take-le _ _ c.if-name-n.false)

pub returns : goal.returns
unfolding starts_with
returns c = c.same.ensures
