-- `addresses_ok` meets its contract.
use Rattle.words.proofs.Tests.{held, refuted}
use Rattle.functions.proofs.edits.addresses_ok.Goals as goal

pub returns-then-not-is_address : goal.returns-then-not-is_address
returns-then-not-is_address c = rw (refuted c.is_address.ensures c.if-not-is_address.true)

pub returns : goal.returns
returns c = rw (held c.is_address.ensures c.if-not-is_address.false, c.is_address-2.ensures)
