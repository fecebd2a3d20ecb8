-- `listed::entry` meets its contract: name, space and the line of status and result, one behind the other.
use Prim.Native.Nat.{◌-◌, ◌*◌, ◌≤◌}
use mathlib.Core.Path.{◌∙◌}
use native.Mathlib.Omega.{arith}
use lib.ListN.{length}
use Rattle.words.specs.Number.{le_at}
use Rattle.records.specs.Limits.{name_max}
use Rattle.answers.specs.Answers.{entry_line}
use Rattle.answers.proofs.Written.{ends, behind}
use Rattle.answers.proofs.Lengths.{length-name}
use Rattle.answers.proofs.listed.entry.Goals as goal

pub byte-space-requires : goal.byte-space-requires
byte-space-requires c = let a = c.args in
    omega (
      arith,
      c.requires.0,
      ends _ _ _ c.name-first.ensures,
      length-name (le_at 4 a.lengths.now (4 * a.j) - 1) a.names.now (name_max * a.j),
    )

pub status-requires : goal.status-requires
status-requires c = let a = c.args in
    omega (
      arith,
      c.requires.0,
      ends _ _ _ c.name-first.ensures,
      length-name (le_at 4 a.lengths.now (4 * a.j) - 1) a.names.now (name_max * a.j),
      ends _ _ _ c.byte-space.ensures,
    )

pub returns : goal.returns
unfolding entry_line
returns c = let room : c.args.at ≤ length c.args.out.now = omega (arith, c.requires.0) in
    behind _ _ _ _ (behind _ _ _ _ c.name-first.ensures c.byte-space.ensures room) c.status.ensures room
    ∙ rw (c.read-status.ensures.value, c.read-result.ensures.value)
