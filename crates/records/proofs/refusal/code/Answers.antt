-- `refusal::code` meets its contract.
use Rattle.records.proofs.refusal.code.Goals as goal

pub returns-in-Err : goal.returns-in-Err
returns-in-Err c = rw c.in-Err.is c.code.ensures
