-- `uploading::finish` meets its contract: the first bytes of each buffer are uploaded.
use Rattle.std.proofs.Common.{refl, ap, ◌∙◌}
use Rattle.answers.specs.Answers.{verdict_line}
use Rattle.answers.specs.Written.{writing}
use Rattle.interpreter.proofs.uploading.finish.Goals as goal

pub returns : goal.returns
returns c = let a = c.args in
    let upload = c.upload-called.ensures.equal in
    let told = c.told.ensures in
    record {
      console = told.console ∙ c.with_mode.ensures;
      state = told.state ∙ ap (λ x. x.state) upload;
      memory = ap (λ x. x.after) upload;
      kept = (refl, refl, refl);
      out = told.out ∙ ap (λ x. writing a.out.now 0 (verdict_line x.answer)) upload;
    }
