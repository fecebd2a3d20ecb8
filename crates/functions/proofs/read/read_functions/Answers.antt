-- `read_functions` meets its contract: the table holds the edits of the records gone through, and what the records from there on say
-- is what all of them say.
use Rattle.std.proofs.Common.{Ok}
use Rattle.std.proofs.lemmas.Result.{err_from_is_err_and}
use mathlib.Core.Path.{◌≡◌, ap, ◌∙◌}
use native.Mathlib.Omega.{arith}
use Rattle.words.specs.Scan.{scan}
use Rattle.words.proofs.Scan.{begin, turn, end, fill-begin, fill-turn}
use Rattle.records.specs.Limits.{records_max}
use Rattle.records.specs.Payload.{no_edit}
use Rattle.functions.specs.Functions.{edit_at, made_of, one_record, edits_of, function_rules, functions_of}
use Rattle.functions.specs.Patching.{patching}
use Rattle.functions.proofs.read.read_functions.Goals as goal
use Rattle.functions.proofs.read.read_functions.Goals.{After-loop-r}

-- where the loop has ended, no record is refused, and the table holds all edits
all_pass : (c : After-loop-r) → let a = c.args in scan (one_record (patching a.host a.placed.now a.list.now) a.start) (Ok tt) 0 a.count ≡ Ok tt
all_pass c = c.loop-r.invariant.1 ∙ end _ _ _ _ c.loop-r-test.false

all_made : (c : After-loop-r) → let a = c.args in c.loop-r.table ≡ edits_of (patching a.host a.placed.now a.list.now) a.start a.count
all_made c =
    let all : c.loop-r.r ≡ c.args.count = omega arith in
    rw (c.loop-r.invariant.0, all)

pub loop-r-init : goal.loop-r-init
loop-r-init c = (rw c.none-none.ensures (fill-begin _ _ records_max), begin _ _ _)

pub returns-in-Err : goal.returns-in-Err
unfolding functions_of function_rules
returns-in-Err c = rw (
  c.refused.ensures,
  c.loop-r.invariant.1,
  turn (one_record _ _) (Ok tt) _ _ c.loop-r-test.true,
  ← c.edit_of.ensures,
  c.in-Err.is,
)

pub loop-r-preserved : goal.loop-r-preserved
loop-r-preserved c =
    let a = c.args in
    let l = c.loop-r in
    let p = patching a.host a.placed.now a.list.now in
    let made : edit_at p a.start l.r ≡ Ok c.in-Ok.e = rw (← c.edit_of.ensures) c.in-Ok.is in (
      rw (l.invariant.0, ← ap made_of made) (fill-turn (λ r. made_of (edit_at p a.start r)) no_edit records_max l.r (omega arith)),
      l.invariant.1 ∙ turn _ _ _ _ c.loop-r-test.true ∙ rw made,
    )

pub returns-in_err-check_pairs : goal.returns-in_err-check_pairs
unfolding functions_of function_rules
returns-in_err-check_pairs c =
    let at = (goal.at.returns-in_err-check_pairs c).After-loop-r in
    let p = err_from_is_err_and c.from_residual.result c.from_residual.ensures.1 in
    rw (p.1, p.2, all_pass at, ← all_made at, ← c.check_pairs.ensures, c.in_err-check_pairs.was)

pub returns : goal.returns
unfolding functions_of function_rules
returns c =
    let at = (goal.at.returns c).After-loop-r in
    rw (all_pass at, ← all_made at, ← c.check_pairs.ensures, c.in_ok-check_pairs.was, all_made at)
