-- `listed::listed` meets its contract: the answer decides.
use Rattle.std.specs.Prelude.{IfOk}
use Rattle.std.proofs.Common.{◌≤◌, subst, ◌∙◌, arith}
use Rattle.memory.specs.Memory.{slot_count}
use Rattle.answers.specs.Answers.{lines_after}
use Rattle.answers.proofs.listed.listed.Goals as goal

pub accepted-requires : goal.accepted-requires
accepted-requires c =
    let few : c.in-Ok.listed.written ≤ slot_count =
    subst (λ y. IfOk y (λ x. x.written ≤ slot_count)) c.in-Ok.is c.requires.line_room_in_bounds.1 in
    (omega arith, omega arith, omega arith, omega arith)

pub returns-in-Ok : goal.returns-in-Ok
unfolding lines_after
returns-in-Ok c = c.accepted.ensures ∙ rw c.in-Ok.is

pub returns-in-Err : goal.returns-in-Err
unfolding lines_after
returns-in-Err c = c.refusal.ensures ∙ rw c.in-Err.is
