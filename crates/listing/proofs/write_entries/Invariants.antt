-- `write_entries` meets its contract: the entries of `j` payloads are written in each buffer.
use Rattle.records.specs.Limits.{name_max}
use Rattle.state.specs.State.{loaded}
use Rattle.listing.specs.List.{status_bytes, name_bytes, length_bytes}
use Rattle.listing.proofs.ListLaws.{Entries}
use Rattle.listing.proofs.write_entries.Given as goal

abbrev pub invariant-loop-j : goal.invariant-loop-j
invariant-loop-j l = Entries status_bytes 8 (loaded l.fn.state) l.idx l.initial.statuses l.j l.statuses
    × Entries name_bytes name_max (loaded l.fn.state) l.idx l.initial.names l.j l.names
    × Entries length_bytes 4 (loaded l.fn.state) l.idx l.initial.lengths l.j l.lengths
