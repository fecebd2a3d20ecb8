-- `Refusal::code` meets its contract: in each arm the place is the one matched, and the rest is arithmetic. Every need before the
-- answers is found by search.
use native.Mathlib.Omega.{arith}
use Rattle.records.specs.Refusal.{refusal_code}
use Rattle.records.proofs.refusal.Refusal.code.Goals as goal

pub returns-in-Nowhere : goal.returns-in-Nowhere
unfolding refusal_code
returns-in-Nowhere c = simp c.in-Nowhere.is (omega (arith, c.number-number.ensures.0))

pub returns-in-Section : goal.returns-in-Section
unfolding refusal_code
returns-in-Section c = simp c.in-Section.is (omega (arith, c.number-number.ensures.0))

pub returns-in-Entry : goal.returns-in-Entry
unfolding refusal_code
returns-in-Entry c = simp c.in-Entry.is (omega (arith, c.number-number.ensures.0))

pub returns-in-Record : goal.returns-in-Record
unfolding refusal_code
returns-in-Record c = simp c.in-Record.is (omega (arith, c.number-number.ensures.0))
