-- `Config::is_valid` meets its contract: its four tests are those of `config_ok`.
use mathlib.Core.Bool.{and-false}
use Rattle.words.proofs.Tests.{held, refuted}
use Rattle.memory.specs.Config.{config_ok}
use Rattle.memory.proofs.config.Config.is_valid.Goals as goal

pub returns-then-not-text_ok : goal.returns-then-not-text_ok
unfolding config_ok
returns-then-not-text_ok c = simp (refuted c.text_ok.ensures c.if-not-text_ok.true)

pub returns-then-not-arena_ok : goal.returns-then-not-arena_ok
unfolding config_ok
returns-then-not-arena_ok c = simp (refuted c.arena_ok.ensures c.if-not-arena_ok.true, and-false)

pub returns-then-not-are_apart : goal.returns-then-not-are_apart
unfolding config_ok
returns-then-not-are_apart c = simp (refuted c.are_apart.ensures c.if-not-are_apart.true, and-false)

pub returns : goal.returns
unfolding config_ok
returns c = simp (
  held c.text_ok.ensures c.if-not-text_ok.false,
  held c.arena_ok.ensures c.if-not-arena_ok.false,
  held c.are_apart.ensures c.if-not-are_apart.false,
)
    c.counts_ok.ensures
