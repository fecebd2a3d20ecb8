-- `listed::accepted` meets its contract: the lines of the entries behind the head line.
use native.Mathlib.Omega.{arith}
use Rattle.listing.specs.List.{buffers}
use Rattle.answers.specs.Answers.{entry_lines}
use Rattle.answers.proofs.Written.{ends, behind}
use Rattle.answers.proofs.Lengths.{length-head}
use Rattle.answers.proofs.listed.accepted.Goals as goal

pub entries-requires : goal.entries-requires
entries-requires c = let a = c.args in
    (omega (arith, ends _ _ _ c.head-end.ensures, length-head a.version a.count), omega arith, omega arith, omega arith)

pub returns : goal.returns
returns c = let a = c.args in
    let b = buffers a.statuses.now a.names.now a.lengths.now in
    behind _ _ _ (entry_lines b a.count) c.head-end.ensures c.entries.ensures (omega arith)
