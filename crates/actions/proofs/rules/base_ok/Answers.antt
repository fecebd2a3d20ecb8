-- `rules::base_ok` meets its contract: the payload on top, the id on top, or the hypervisor's id, by the command.
use Rattle.std.proofs.Common.{eq-eqb, ne_eqb}
use Rattle.actions.specs.Actions.{base_ok}
use Rattle.actions.proofs.rules.base_ok.Goals as goal

pub returns-then-command-eq-REVERT : goal.returns-then-command-eq-REVERT
unfolding base_ok
returns-then-command-eq-REVERT c = simp (eq-eqb _ _ c.if-command-eq-REVERT.true) c.is_top.ensures

pub returns-then-command-eq-APPLY : goal.returns-then-command-eq-APPLY
unfolding base_ok
returns-then-command-eq-APPLY c = simp (ne_eqb _ _ c.if-command-eq-REVERT.false, eq-eqb _ _ c.if-command-eq-APPLY.true, ← c.top_id.ensures) c.depends_on.ensures

pub returns-then-command-eq-REPLACE : goal.returns-then-command-eq-REPLACE
unfolding base_ok
returns-then-command-eq-REPLACE c = simp (ne_eqb _ _ c.if-command-eq-REVERT.false, ne_eqb _ _ c.if-command-eq-APPLY.false, eq-eqb _ _ c.if-command-eq-REPLACE.true) c.depends_on-then-command-eq-REPLACE.ensures

pub returns : goal.returns
unfolding base_ok
returns c = simp (ne_eqb _ _ c.if-command-eq-REVERT.false, ne_eqb _ _ c.if-command-eq-APPLY.false, ne_eqb _ _ c.if-command-eq-REPLACE.false)
