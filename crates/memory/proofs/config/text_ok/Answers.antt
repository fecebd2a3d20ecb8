-- `config::text_ok` meets its contract: the end is compared by what is left up to 2^64.
use mathlib.Core.Bool.{and-false}
use native.Mathlib.Omega.{arith}
use borrow.Author.Tests.{le-leb, lt-leb}
use Rattle.memory.specs.Config.{text_ok}
use Rattle.memory.proofs.Laws.{by-room}
use Rattle.memory.proofs.config.text_ok.Goals as goal

pub returns-then-config-lt1 : goal.returns-then-config-lt1
unfolding text_ok
returns-then-config-lt1 c = simp (lt-leb _ _ c.if-config-lt1.true)

pub returns-then-config-gt-TEXT_MAX : goal.returns-then-config-gt-TEXT_MAX
unfolding text_ok
returns-then-config-gt-TEXT_MAX c = simp (lt-leb _ _ c.if-config-gt-TEXT_MAX.true, and-false)

pub returns : goal.returns
unfolding text_ok
returns c = let config = c.args.config in
    simp (le-leb _ _ c.if-config-lt1.false, le-leb _ _ c.if-config-gt-TEXT_MAX.false) (by-room config.text config.text_length (omega arith) (omega arith))
