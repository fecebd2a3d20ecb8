-- `FieldType::store` meets its contract.
use native.Mathlib.Omega.{arith}
use Rattle.machine.proofs.fields.FieldType.store.Goals as goal

pub write-requires : goal.write-requires
write-requires c = omega (arith, rw c.in-Absolute.is at c.requires)

pub write-requires-in-Relative : goal.write-requires-in-Relative
write-requires-in-Relative c = omega (arith, rw c.in-Relative.is at c.requires)

pub returns-in-Absolute : goal.returns-in-Absolute
returns-in-Absolute c = rw c.in-Absolute.is c.write.ensures

pub returns-in-Relative : goal.returns-in-Relative
returns-in-Relative c = rw c.in-Relative.is c.write-in-Relative.ensures
