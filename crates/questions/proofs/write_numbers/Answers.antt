-- `write_numbers` meets its contract: the first `i` numbers are written, in the end all of them, and they take all of the buffer.
use mathlib.Core.Path.{◌≡◌, sym, ◌∙◌}
use native.Mathlib.Nat.{zero-add}
use native.Mathlib.Omega.{arith}
use lib.ListN.{length}
use Rattle.words.specs.Number.{le_bytes}
use Rattle.words.proofs.Number.{length-le_bytes}
use Rattle.words.proofs.Splice.{splice-whole}
use Rattle.state_bytes.proofs.Fields.{length-table}
use Rattle.state_bytes.proofs.Rows.{number-row, table-begin, table-turn, table-end}
use Rattle.questions.proofs.write_numbers.Goals as goal

pub loop-i-init : goal.loop-i-init
loop-i-init c = table-begin _ _ _ _ _ _ _

pub loop-i-preserved : goal.loop-i-preserved
loop-i-preserved c = table-turn _ _ _ _ _ _ _ c.loop-i.invariant (omega arith) (omega arith) (number-row 4 _ (omega (arith, c.type_inv.numbers c.loop-i.i))) (rw zero-add c.write.ensures)

pub returns : goal.returns
returns c = let numbers = c.args.numbers.now in
    let all : c.loop-i.i ≡ length numbers = omega arith in
    table-end _ _ _ _ _ _ _ c.loop-i.invariant all
    ∙ splice-whole c.args.out.now _ (length-table (le_bytes 4) 4 numbers 0 (λ i h. length-le_bytes 4 _) ∙ sym c.requires)
