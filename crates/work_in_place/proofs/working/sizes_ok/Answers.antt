-- `working::sizes_ok` meets its contract: the first test that fails decides.
use mathlib.Core.Path.{sym, ap, ◌∙◌}
use borrow.Author.Tests.{eq-eqb, ne_eqb}
use Rattle.words.proofs.Tests.{held, refuted}
use Rattle.memory.specs.declared.config.Config.{Config}
use Rattle.work.specs.Work.{work_sizes_ok}
use Rattle.work_in_place.proofs.working.sizes_ok.Goals as goal

pub returns-then-not-in_range : goal.returns-then-not-in_range
unfolding work_sizes_ok
returns-then-not-in_range c = simp (refuted c.in_range.ensures c.if-not-in_range.true)

pub returns-then-text-config : goal.returns-then-text-config
unfolding work_sizes_ok
returns-then-text-config c = let length = ap (λ (x : Config). x.text_length) c.config-config.ensures in
    simp (held c.in_range.ensures c.if-not-in_range.false, ne_eqb _ _ (λ e. c.if-text-config.true (e ∙ sym length)))

pub returns : goal.returns
unfolding work_sizes_ok
returns c = let length = ap (λ (x : Config). x.text_length) c.config-config.ensures in
    simp (held c.in_range.ensures c.if-not-in_range.false, eq-eqb _ _ (c.if-text-config.false ∙ length))

pub in_range-requires : goal.in_range-requires
in_range-requires c = c.requires

pub config-config-requires : goal.config-config-requires
config-config-requires c = c.requires
