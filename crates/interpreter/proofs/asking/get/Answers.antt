-- `asking::get` meets its contract: the name is kept, looked up, and what is found is written.
use Rattle.std.proofs.Common.{refl, ap, ◌∙◌}
use Rattle.queries.specs.Get.{get_of}
use Rattle.answers.specs.Answers.{got_line}
use Rattle.answers.specs.Written.{writing}
use Rattle.interpreter.proofs.asking.get.Goals as goal

pub returns : goal.returns
returns c = let a = c.args in
    let name = c.get-got.ensures ∙ ap (get_of a.state) c.keep_name-n.ensures.same in
    record {
      console = refl;
      state = refl;
      out = c.got-written.ensures ∙ ap (λ got. writing a.out.now 0 (got_line got)) name;
    }
