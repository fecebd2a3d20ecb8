-- `asking::list` meets its contract: list's buffers begin as zeros, and what it wrote there is written as lines.
use Rattle.std.proofs.Common.{◌*◌, ◌≤◌, replicate, refl, ap, ◌∙◌, arith}
use mathlib.Core.Path.{subst⁻¹}
use Rattle.std.specs.Prelude.{IfOk}
use Rattle.records.specs.Limits.{name_max}
use Rattle.memory.specs.Memory.{slot_count}
use Rattle.listing.specs.List.{buffers}
use Rattle.answers.specs.Answers.{list_lines}
use Rattle.answers.specs.Written.{writing}
use Rattle.interpreter.specs.Lines.{listed}
use Rattle.interpreter.proofs.Lists.{few-listed}
use Rattle.interpreter.proofs.asking.list.Goals as goal

pub listed-written-requires : goal.listed-written-requires
listed-written-requires c = let list = c.list-answer in
    let zeros = buffers (replicate (8 * slot_count) 0) (replicate (name_max * slot_count) 0) (replicate (4 * slot_count) 0) in
    let few = few-listed c.args.state zeros in
    record {
      line_room_in_bounds = (omega arith, subst⁻¹ (λ x. IfOk x.answer (λ y. y.written ≤ slot_count)) list.ensures few);
      slot_count_in_bounds = (omega arith, omega arith, omega arith);
    }

pub returns : goal.returns
unfolding listed
returns c = let a = c.args in
    record {
      console = refl;
      state = refl;
      out = c.listed-written.ensures ∙ ap (λ x. writing a.out.now 0 (list_lines x)) c.list-answer.ensures;
    }
