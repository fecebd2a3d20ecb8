-- `value_of` meets its contract.
use mathlib.Core.Path.{refl, ◌∙◌}
use native.Mathlib.Omega.{arith}
use Rattle.linking.proofs.KeptLaws.{value-past-table, cell-told, found-told}
use Rattle.linking.proofs.kept.value_of.Goals as goal

-- no table has room for a number past the cells
pub returns-then-i-ge-SYMBOLS_MAX : goal.returns-then-i-ge-SYMBOLS_MAX
returns-then-i-ge-SYMBOLS_MAX c = λ l s. (value-past-table l refl _ (λ e. omega arith) (omega (arith, s.kept.short)), s.kept)

pub returns-in-Known : goal.returns-in-Known
returns-in-Known c = λ l s. (cell-told s _ (omega arith) c.in-Known.is, s.kept)

pub returns-in-Refused : goal.returns-in-Refused
returns-in-Refused c = λ l s. (cell-told s _ (omega arith) c.in-Refused.is, s.kept)

pub returns-in-Named : goal.returns-in-Named
returns-in-Named c = λ l s.
    let value = c.look_up.ensures.0 ∙ cell-told s _ (omega arith) c.in-Named.is in
    (value, rw c.look_up.ensures.1 (found-told s _ (omega arith) _ value))

pub returns-in-NamedWeak : goal.returns-in-NamedWeak
returns-in-NamedWeak c = λ l s.
    let value = c.look_up-in-NamedWeak.ensures.0 ∙ cell-told s _ (omega arith) c.in-NamedWeak.is in
    (value, rw c.look_up-in-NamedWeak.ensures.1 (found-told s _ (omega arith) _ value))
