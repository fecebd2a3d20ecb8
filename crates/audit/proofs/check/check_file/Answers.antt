-- `check_file` meets its contract: the verdict of the reading is that of the rules.
use Rattle.std.proofs.Common.{sym, ap, ◌∙◌}
use Rattle.records.specs.Refusal.{verdict_code}
use Rattle.records.proofs.Checks.{decided-ok, decided-err}
use Rattle.machine.specs.X86.{x86_64}
use Rattle.payload.specs.Reading.{read_rules, reading_of}
use Rattle.audit.specs.Answers.{file_answer}
use Rattle.audit.proofs.check.check_file.Goals as goal

pub returns-in-Ok : goal.returns-in-Ok
unfolding file_answer reading_of
returns-in-Ok c =
    sym (ap verdict_code (decided-ok _ (read_rules x86_64 c.args.file.now) (sym c.read.ensures ∙ c.in-Ok.is)).0)

pub returns-in-Err : goal.returns-in-Err
unfolding file_answer reading_of
returns-in-Err c =
    c.code.ensures ∙ sym (ap verdict_code (decided-err _ (read_rules x86_64 c.args.file.now) (sym c.read.ensures ∙ c.in-Err.is)))
