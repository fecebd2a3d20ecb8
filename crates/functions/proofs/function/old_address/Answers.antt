-- `old_address` meets its contract.
use borrow.Author.Tests.{eq-eqb, ne_eqb, le-leb, lt-leb, le-ltb, lt-ltb}
use Rattle.functions.specs.Records.{old_address_of}
use Rattle.functions.proofs.function.old_address.Goals as goal

pub returns-then-f-ne0 : goal.returns-then-f-ne0
unfolding old_address_of
returns-then-f-ne0 c = simp (ne_eqb _ _ c.if-f-ne0.true)

pub returns-then-name-host : goal.returns-then-name-host
unfolding old_address_of
returns-then-name-host c = simp (eq-eqb _ _ c.if-f-ne0.false, lt-leb _ _ c.if-name-host.true)

pub returns-then-placed-name : goal.returns-then-placed-name
unfolding old_address_of
returns-then-placed-name c = simp (eq-eqb _ _ c.if-f-ne0.false, le-leb _ _ c.if-name-host.false, le-ltb _ _ c.if-placed-name.true)

pub returns : goal.returns
unfolding old_address_of
returns c = rw (
  eq-eqb _ _ c.if-f-ne0.false,
  le-leb _ _ c.if-name-host.false,
  lt-ltb _ _ c.if-placed-name.false,
  c.named_address.ensures,
)
