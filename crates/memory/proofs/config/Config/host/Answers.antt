-- `Config::host` meets its contract: a slot of an accepted arena ends at 2^64 or before.
use native.Mathlib.Omega.{arith}
use Rattle.memory.proofs.Laws.{valid-config}
use Rattle.memory.proofs.config.Config.host.Goals as goal

pub overflow_add-result : goal.overflow_add-result
overflow_add-result c = omega (arith, valid-config _ c.requires.0)
