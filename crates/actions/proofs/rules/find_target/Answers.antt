-- `rules::find_target` meets its contract: the first rule that fails decides.
use Rattle.std.proofs.Common.{◌≡◌, ◌<◌, true, sym, ◌∙◌, arith, le-leb, Some}
use mathlib.Core.Bool.{and-false}
use borrow.Author.Tests.{lt-leb}
use Rattle.words.proofs.Tests.{held, refuted}
use Rattle.records.specs.Name.{is_name}
use Rattle.memory.specs.Memory.{slot_count}
use Rattle.state.specs.Find.{with_name, payload_at}
use Rattle.state.proofs.Whole.{Whole, whole, copied-payload}
use Rattle.ranges.proofs.Laws.{in-range}
use Rattle.actions.specs.Actions.{is_command, is_busy, target_rules, target_of}
use Rattle.actions.proofs.TargetLaws.{name-hit}
use Rattle.actions.proofs.rules.find_target.Goals as goal
use Rattle.actions.proofs.rules.find_target.Goals.{In-Some, After-is_busy}

pub returns-then-not-is_name : goal.returns-then-not-is_name
unfolding target_of target_rules
returns-then-not-is_name c = simp (c.refused.ensures, refuted c.is_name.ensures c.if-not-is_name.true)

pub returns-in_default : goal.returns-in_default
unfolding target_of target_rules
returns-in_default c = simp (
  c.refused-in_default.ensures,
  held c.is_name.ensures c.if-not-is_name.false,
  sym c.with_name.ensures,
  c.in_default.is,
)

-- the payload was found
module _ (c : goal.In-Some) where
  is-named : is_name c.args.name.now ≡ true
  is-named = held c.is_name.ensures c.if-not-is_name.false

  found : with_name c.args.state c.args.name.now ≡ Some c.in-Some.place
  found = sym c.with_name.ensures ∙ c.in-Some.is

  kept : Whole c.args.state
  kept = whole c.args.state _ c.well_formed.0

  inside : c.in-Some.place < slot_count
  inside = omega (arith, name-hit c.args.state _ _ found, (in-range kept c.requires).few)

pub returns-then-command-lt-UNLOAD : goal.returns-then-command-lt-UNLOAD
unfolding target_of target_rules
returns-then-command-lt-UNLOAD c = let at = (goal.at.returns-then-command-lt-UNLOAD c).In-Some in
    simp (c.refused-then-command-lt-UNLOAD.ensures, is-named at, found at, lt-leb _ _ c.if-command-lt-UNLOAD.true)

pub returns-then-command-gt-REPLACE : goal.returns-then-command-gt-REPLACE
unfolding target_of target_rules
returns-then-command-gt-REPLACE c = let at = (goal.at.returns-then-command-gt-REPLACE c).In-Some in
    simp (c.refused-then-command-gt-REPLACE.ensures, is-named at, found at, lt-leb _ _ c.if-command-gt-REPLACE.true, and-false)

pub offset_bounds-state-place : goal.offset_bounds-state-place
offset_bounds-state-place c = omega (arith, inside (goal.at.offset_bounds-state-place c).In-Some)

pub bounds-state-place : goal.bounds-state-place
bounds-state-place c = omega (arith, inside (goal.at.bounds-state-place c).In-Some)

-- the command is one of the four
module _ (c : goal.After-is_busy) where
  abbrev at : goal.In-Some
  at = (goal.at.After-is_busy c).In-Some

  commands : is_command c.args.command ≡ true
  commands = rw (le-leb _ _ c.if-command-lt-UNLOAD.false, le-leb _ _ c.if-command-gt-REPLACE.false)

  busy : is_busy c.args.state c.args.command (payload_at c.args.state c.in-Some.place) ≡ c.is_busy.result
  busy = rw (← copied-payload (kept at) _ (inside at)) (sym c.is_busy.ensures)

pub returns-then-is_busy : goal.returns-then-is_busy
unfolding target_of target_rules
returns-then-is_busy c = let here = (goal.at.returns-then-is_busy c).After-is_busy in
    simp (c.refused-then-is_busy.ensures, is-named (at here), found (at here), commands here, busy here, c.if-is_busy.true)

pub returns : goal.returns
unfolding target_of target_rules
returns c = let here = (goal.at.returns c).After-is_busy in
    simp (is-named (at here), found (at here), commands here, busy here, c.if-is_busy.false)
