-- `kind_named` meets its contract: after each name that it is not, the definition from the next one on is left.
use Rattle.std.proofs.Common.{sym}
use Rattle.kinds.specs.Kinds.{kind_named}
use Rattle.kinds.proofs.kind_named.Goals as goal

pub returns-then-same-3 : goal.returns-then-same-3
unfolding kind_named
returns-then-same-3 c =
    simp (sym c.if-same.ensures, sym c.if-same-2.ensures, sym c.if-same-3.ensures) c.note_kind-then-same-3.ensures

pub returns-then-is_allocated : goal.returns-then-is_allocated
unfolding kind_named
returns-then-is_allocated c =
    simp (sym c.if-same.ensures, sym c.if-same-2.ensures, sym c.if-same-3.ensures, sym c.if-is_allocated.ensures) c.allocated_kind.ensures

pub returns : goal.returns
unfolding kind_named
returns c =
    simp (sym c.if-same.ensures, sym c.if-same-2.ensures, sym c.if-same-3.ensures, sym c.if-is_allocated.ensures) c.plain_kind.ensures
