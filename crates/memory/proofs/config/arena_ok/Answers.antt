-- `config::arena_ok` meets its contract: the end is compared by what is left up to 2^64.
use mathlib.Core.Bool.{and-false}
use native.Mathlib.Omega.{arith}
use borrow.Author.Tests.{eq-eqb, ne_eqb}
use Rattle.memory.specs.Config.{arena_ok}
use Rattle.memory.specs.Memory.{arena_size}
use Rattle.memory.proofs.Laws.{by-room}
use Rattle.memory.proofs.config.arena_ok.Goals as goal

pub returns-then-config-eq0 : goal.returns-then-config-eq0
unfolding arena_ok
returns-then-config-eq0 c = simp (eq-eqb _ _ c.if-config-eq0.true)

pub returns-then-config-ne0 : goal.returns-then-config-ne0
unfolding arena_ok
returns-then-config-ne0 c = simp (ne_eqb _ _ c.if-config-ne0.true, and-false)

pub returns : goal.returns
unfolding arena_ok
returns c = let config = c.args.config in
    simp (ne_eqb _ _ c.if-config-eq0.false, eq-eqb _ _ c.if-config-ne0.false) (by-room config.arena arena_size (omega arith) (omega arith))
