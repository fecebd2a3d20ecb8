-- `config::counts_ok` meets its contract.
use mathlib.Core.Bool.{and-false}
use borrow.Author.Tests.{le-leb, lt-leb}
use Rattle.memory.specs.Config.{counts_ok}
use Rattle.memory.proofs.config.counts_ok.Goals as goal

pub returns-then-config-lt-ID_MIN : goal.returns-then-config-lt-ID_MIN
unfolding counts_ok
returns-then-config-lt-ID_MIN c = simp (lt-leb _ _ c.if-config-lt-ID_MIN.true)

pub returns-then-config-gt-ID_MAX : goal.returns-then-config-gt-ID_MAX
unfolding counts_ok
returns-then-config-gt-ID_MAX c = simp (lt-leb _ _ c.if-config-gt-ID_MAX.true, and-false)

pub returns-then-config-lt1 : goal.returns-then-config-lt1
unfolding counts_ok
returns-then-config-lt1 c = simp (lt-leb _ _ c.if-config-lt1.true, and-false)

pub returns : goal.returns
unfolding counts_ok
returns c = rw (le-leb _ _ c.if-config-lt-ID_MIN.false, le-leb _ _ c.if-config-gt-ID_MAX.false, le-leb _ _ c.if-config-lt1.false)
