-- `list` meets its contract: what the check says decides, and the entries are written where it passes.
use Rattle.std.proofs.Common.{◌≤◌, length, sym, ◌∙◌, arith}
use Rattle.std.proofs.lemmas.Result.{err_from_is_err_and}
use Rattle.memory.specs.Memory.{slot_count}
use Rattle.state.proofs.Whole.{whole}
use Rattle.ranges.proofs.Laws.{in-range}
use Rattle.listing.proofs.ListLaws.{Asked, asked, refuses, accepts}
use Rattle.listing.proofs.list.Goals as goal
use Rattle.listing.proofs.list.Goals.{In_ok-check}

pub returns-in_err-check : goal.returns-in_err-check
returns-in_err-check c =
    let p = err_from_is_err_and c.from_residual.result c.from_residual.ensures.1 in
    rw (p.1, p.2) (refuses c.args.state c.args.idx c.args.nr _ c.check.ensures c.in_err-check.was)

module _ (c : goal.In_ok-check) where
  accepted : let a = c.args in Asked a.state a.idx a.nr (length a.statuses.now) (length a.names.now) (length a.lengths.now)
  accepted = asked _ _ _ _ _ _ (sym c.check.ensures ∙ c.in_ok-check.was)

  few : c.args.state.count ≤ slot_count
  few = (in-range (whole c.args.state _ c.well_formed.0) accepted.ranges).few

pub overflow_sub-there : goal.overflow_sub-there
overflow_sub-there c = (accepted (goal.at.overflow_sub-there c).In_ok-check).inside

pub write_entries-requires : goal.write_entries-requires
write_entries-requires c = let past = (goal.at.write_entries-requires c).In_ok-check in
    let a = accepted past in (
      omega (arith, a.inside),
      few past,
      omega (arith, a.room.in_statuses),
      omega (arith, a.room.in_names),
      omega (arith, a.room.in_lengths),
    )

pub overflow_cast-left : goal.overflow_cast-left
overflow_cast-left c = omega (arith, few (goal.at.overflow_cast-left c).In_ok-check)

pub returns : goal.returns
returns c = accepts c.args.state c.args.idx c.args.nr _ c.check.ensures c.in_ok-check.was c.min-n.ensures c.write_entries.ensures
