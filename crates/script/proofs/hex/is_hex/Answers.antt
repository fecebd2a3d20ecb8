-- `hex::is_hex` meets its contract: some bytes, evenly many, and all of them digits.
use mathlib.Core.Path.{sym, ◌∙◌}
use native.Mathlib.Omega.{arith}
use borrow.Author.Tests.{eq-eqb, ne_eqb}
use Rattle.std.proofs.Common.{rules, tests}
use Rattle.std.proofs.lemmas.Iterator.{YieldsList-from_slice}
use Rattle.std.proofs.lemmas.Iterator.Search.{all_from_yields_List}
use Rattle.script.specs.Hex.{is_hex_digit}
use Rattle.script.proofs.Digits.{some-plain, none-plain, every-list_all, empty-no-hex, odd-no-hex, other-no-hex}
use Rattle.script.proofs.hex.is_hex.Goals as goal

pub returns-then-s-eq0 : goal.returns-then-s-eq0
returns-then-s-eq0 c = sym (empty-no-hex _ (none-plain _ c.if-s-eq0.true))

pub returns-then-s-ne0 : goal.returns-then-s-ne0
returns-then-s-ne0 c = sym (odd-no-hex _ (some-plain _ (omega arith)) (ne_eqb _ _ c.if-s-ne0.true))

pub returns : goal.returns
returns c = let s = c.args.s.now in
    let whole = other-no-hex s (some-plain _ (omega arith)) (eq-eqb _ _ c.if-s-ne0.false) in
    let all = all_from_yields_List is_hex_digit _ _ c.all.result c.all.ensures.ran (YieldsList-from_slice s cc) (λ x b q k. search (rules, tests)) in
    all ∙ sym (whole ∙ every-list_all is_hex_digit s)
