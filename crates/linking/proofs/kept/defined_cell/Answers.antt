-- `defined_cell` meets its contract.
use Rattle.linking.proofs.KeptLaws.{defined-inside, defined-outside, defined-past}
use Rattle.linking.proofs.kept.defined_cell.Goals as goal

pub returns-then-home-ge-SECTIONS_MAX : goal.returns-then-home-ge-SECTIONS_MAX
returns-then-home-ge-SECTIONS_MAX c = λ l stands. defined-past stands _ c.if-home-ge-SECTIONS_MAX.true

pub returns-then-layout-home : goal.returns-then-layout-home
returns-then-layout-home c = λ l stands. defined-outside stands _ c.if-layout-home.true

pub returns : goal.returns
returns c = λ l stands. rw (c.add.ensures, c.add-start.ensures) (defined-inside stands _ c.if-layout-home.false)
