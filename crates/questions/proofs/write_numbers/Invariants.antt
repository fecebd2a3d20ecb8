-- `write_numbers` meets its contract: the first `i` numbers are written.
use Rattle.words.specs.Number.{le_at, le_bytes}
use Rattle.state_bytes.proofs.Rows.{Table}
use Rattle.questions.proofs.write_numbers.Given as goal

abbrev pub invariant-loop-i : goal.invariant-loop-i
invariant-loop-i l = Table (le_bytes 4) (le_at 4) 4 l.numbers 0 l.initial.out 0 l.i l.out
