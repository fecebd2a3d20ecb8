-- `write_summary` meets its contract: the six writes, one behind the other, are the summary.
use mathlib.Core.Path.{◌∙◌}
use native.Mathlib.Omega.{arith}
use Rattle.encode.proofs.Laws.{summary-laid}
use Rattle.encode.proofs.write_summary.Goals as goal

pub returns : goal.returns
returns c = let a = c.args in
    c.write_id-2.ensures.buffer_after
    ∙ rw (c.write_id.ensures.buffer_after, c.write-4.ensures, c.write-3.ensures, c.write-2.ensures, c.write.ensures)
    (summary-laid
    a.buffer.now
    a.placed
    a.count
    a.id
    a.dependency
    (omega arith)
    c.write_id.ensures.bytes_len
    c.write_id-2.ensures.bytes_len)
