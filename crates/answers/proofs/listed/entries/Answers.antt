-- `listed::entries` meets its contract: the lines of the first `j` entries are written.
use mathlib.Core.Path.{◌≡◌, ◌∙◌}
use native.Mathlib.Omega.{arith}
use Rattle.listing.specs.List.{buffers}
use Rattle.answers.specs.Answers.{entry_line}
use Rattle.answers.proofs.Written.{none, ends, behind}
use Rattle.answers.proofs.Entries.{entries_none, entries-more, length-entries}
use Rattle.answers.proofs.listed.entries.Goals as goal

pub loop-j-init : goal.loop-j-init
loop-j-init c = let a = c.args in
    none a.out.now a.at ∙ rw (entries_none (buffers a.statuses.now a.names.now a.lengths.now))

pub entry-end-requires : goal.entry-end-requires
entry-end-requires c = let a = c.args in
    let so_far = length-entries (buffers a.statuses.now a.names.now a.lengths.now) c.loop-j.j in
    (omega (arith, ends _ _ _ c.loop-j.invariant), omega arith, omega arith, omega arith)

pub loop-j-preserved : goal.loop-j-preserved
loop-j-preserved c = let a = c.args in
    let b = buffers a.statuses.now a.names.now a.lengths.now in
    behind _ _ _ (entry_line b c.loop-j.j) c.loop-j.invariant c.entry-end.ensures (omega arith) ∙ rw (entries-more b c.loop-j.j)

pub returns : goal.returns
returns c = let a = c.args in
    let all : c.loop-j.j ≡ a.n = omega arith in
    rw (← all) c.loop-j.invariant
