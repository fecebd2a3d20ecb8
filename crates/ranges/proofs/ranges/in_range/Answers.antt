-- `ranges::in_range` meets its contract: the first test that fails decides.
use mathlib.Core.Path.{◌≡◌, ◌∙◌}
use mathlib.Core.Bool.{not, ◌&&◌, ◌||◌}
use native.Mathlib.Omega.{arith}
use borrow.Author.Rules.{rules}
use borrow.Author.Tests.{tests, le-leb, lt-leb}
use lib.Dec.{leb}
use Rattle.std.proofs.lemmas.Iterator.{YieldsList-from_slice}
use Rattle.std.proofs.lemmas.Iterator.Search.{all_from_yields_List}
use Rattle.words.specs.Find.{every}
use Rattle.words.proofs.Tests.{held, refuted}
use Rattle.state.specs.Find.{is_taken}
use Rattle.state.specs.State.{is_standing, loaded, stack_of}
use Rattle.ranges.specs.Ranges.{payload_in_range, job_in_range, in_range}
use Rattle.ranges.proofs.Every.{every_all}
use Rattle.ranges.proofs.ranges.in_range.Goals as goal
use Rattle.ranges.proofs.ranges.in_range.Goals.{After-all, Else-not-all}

pub returns-then-not-is_valid : goal.returns-then-not-is_valid
unfolding in_range
returns-then-not-is_valid c = simp (refuted c.is_valid.ensures c.if-not-is_valid.true)

pub returns-then-state-gt-SLOTS : goal.returns-then-state-gt-SLOTS
unfolding in_range
returns-then-state-gt-SLOTS c = simp (held c.is_valid.ensures c.if-not-is_valid.false, lt-leb _ _ c.if-state-gt-SLOTS.true)

-- what `all` answered of the payloads
answered : (c : goal.After-all) → let s = c.args.state in c.all.result ≡ every (payload_in_range s.config) (loaded s)
answered c = let s = c.args.state in
    all_from_yields_List (payload_in_range s.config) _ _ _ c.all.ensures.ran (YieldsList-from_slice (loaded s) (cc)) (λ x b q k. search (rules, tests))
    ∙ every_all _ _

pub returns-then-not-all : goal.returns-then-not-all
unfolding in_range
returns-then-not-all c = simp (
  held c.is_valid.ensures c.if-not-is_valid.false,
  le-leb _ _ c.if-state-gt-SLOTS.false,
  refuted (answered (goal.at.returns-then-not-all c).After-all) c.if-not-all.true,
)

-- after the payloads: what is left to test
rest :
    (c : goal.Else-not-all) → let s = c.args.state in
    in_range s ≡ (leb s.depth s.count && every (is_taken s) (stack_of s) && (not (is_standing s.job) || job_in_range s))
unfolding in_range
rest c =
    simp (
      held c.is_valid.ensures c.if-not-is_valid.false,
      le-leb _ _ c.if-state-gt-SLOTS.false,
      held (answered (goal.at.Else-not-all c).After-all) c.if-not-all.false,
    )

pub returns-then-state : goal.returns-then-state
returns-then-state c = rw (rest (goal.at.returns-then-state c).Else-not-all, lt-leb _ _ c.if-state.true)

pub returns : goal.returns
returns c = rw (rest (goal.at.returns c).Else-not-all, le-leb _ _ c.if-state.false) (c.outline_in_range.ensures _ c.outline_of.ensures)

pub outline_in_range-requires : goal.outline_in_range-requires
outline_in_range-requires c = (omega (arith, c.outline_of.ensures.count), omega (arith, c.outline_of.ensures.depth))
