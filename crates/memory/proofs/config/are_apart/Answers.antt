-- `config::are_apart` meets its contract: whichever begins first ends where the other begins or before.
use Prim.Native.Nat.{◌+◌}
use mathlib.Core.Path.{◌∙◌}
use mathlib.Core.Bool.{or-false}
use native.Mathlib.Omega.{arith}
use borrow.Author.Tests.{lt-leb}
use Rattle.memory.specs.Config.{are_apart}
use Rattle.memory.specs.Memory.{arena_size}
use Rattle.memory.proofs.Laws.{by_difference}
use Rattle.memory.proofs.config.are_apart.Goals as goal

pub returns-then-config : goal.returns-then-config
unfolding are_apart
returns-then-config c = let config = c.args.config in
    by_difference config.text config.arena config.text_length (omega arith)
    ∙ rw (lt-leb (config.arena + arena_size) config.text (omega arith), or-false)

pub returns : goal.returns
unfolding are_apart
returns c = let config = c.args.config in
    by_difference config.arena config.text arena_size (omega arith)
    ∙ rw (lt-leb (config.text + config.text_length) config.arena (omega arith))
