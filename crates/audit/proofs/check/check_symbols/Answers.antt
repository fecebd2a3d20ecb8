-- `check_symbols` meets its contract.
use mathlib.Core.Path.{ap, ◌∙◌}
use Rattle.records.specs.Refusal.{verdict_code}
use Rattle.audit.specs.Answers.{list_answer}
use Rattle.audit.proofs.check.check_symbols.Goals as goal

pub returns : goal.returns
unfolding list_answer
returns c = c.code.ensures ∙ ap verdict_code c.check.ensures
