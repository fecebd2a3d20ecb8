-- `FieldType::check` meets its contract: the test of the range decides that of the rule.
use Rattle.words.proofs.Tests.{held, refuted}
use Rattle.machine.specs.X86.{fits_four_bytes}
use Rattle.machine.proofs.fields.FieldType.check.Goals as goal

pub returns-then-not-fits_signed : goal.returns-then-not-fits_signed
unfolding fits_four_bytes
returns-then-not-fits_signed c = rw (c.in-Relative.is, refuted c.fits_signed.ensures c.if-not-fits_signed.true)

pub returns-else-not-fits_signed : goal.returns-else-not-fits_signed
unfolding fits_four_bytes
returns-else-not-fits_signed c = rw (c.in-Relative.is, held c.fits_signed.ensures c.if-not-fits_signed.false)
