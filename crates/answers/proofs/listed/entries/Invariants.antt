-- `listed::entries` meets its contract: the lines of the first `j` entries are written.
use mathlib.Core.Path.{◌≡◌}
use Rattle.listing.specs.List.{buffers}
use Rattle.answers.specs.Answers.{entry_lines}
use Rattle.answers.specs.Written.{written, writing}
use Rattle.answers.proofs.listed.entries.Given as goal

abbrev pub invariant-loop-j : goal.invariant-loop-j
invariant-loop-j l = written l.out l.end ≡ writing l.initial.out l.at (entry_lines (buffers l.statuses l.names l.lengths) l.j)
