-- `FieldType::value` meets its contract.
use Rattle.machine.proofs.fields.FieldType.value.Goals as goal

pub returns-in-Absolute : goal.returns-in-Absolute
returns-in-Absolute c = rw c.in-Absolute.is c.add-target.ensures

pub returns-in-Relative : goal.returns-in-Relative
returns-in-Relative c = rw c.in-Relative.is (rw c.add-target.ensures at c.subtract.ensures)
