-- `decimal::read` meets its contract: the digits so far make `v`, which is at most `most`.
use Rattle.std.proofs.Common.{Some}
use Prim.Native.Nat.{◌+◌, ◌-◌, ◌*◌}
use mathlib.Core.Path.{◌≡◌, refl, sym, ap, ◌∙◌}
use native.Mathlib.Omega.{arith}
use lib.ListN.{get_or, drop}
use Rattle.script.specs.Decimal.{is_digit, value_from}
use Rattle.script.proofs.Digits.{some-plain, none-plain, every-stops, every-goes-on, every-behind, digit_low, digit-high, digit-between, value-turn, value-end, value_grows, empty-unreadable, other-unreadable, large-unreadable, number_read}
use Rattle.script.proofs.decimal.read.Goals as goal

pub returns-then-s-eq0 : goal.returns-then-s-eq0
returns-then-s-eq0 c = sym (empty-unreadable _ _ (none-plain _ c.if-s-eq0.true))

pub loop-digit-init : goal.loop-digit-init
loop-digit-init c = (some-plain _ (omega arith), refl, refl, omega arith)

pub returns-then-b-lt48 : goal.returns-then-b-lt48
returns-then-b-lt48 c = let l = c.loop-digit in
    let s = c.args.s.now in
    let low = digit_low (get_or s l.digit-index 0) (omega arith) in
    sym (other-unreadable _ s l.invariant.0 (every-stops is_digit s l.digit-index (omega arith) l.invariant.1 low))

pub returns-then-b-gt57 : goal.returns-then-b-gt57
returns-then-b-gt57 c = let l = c.loop-digit in
    let s = c.args.s.now in
    let high = digit-high (get_or s l.digit-index 0) (omega arith) in
    sym (other-unreadable _ s l.invariant.0 (every-stops is_digit s l.digit-index (omega arith) l.invariant.1 high))

pub returns-then-most-v : goal.returns-then-most-v
returns-then-most-v c = let l = c.loop-digit in
    let s = c.args.s.now in
    let grown = value_grows (l.v * 10 + (get_or s l.digit-index 0 - 48)) (drop (l.digit-index + 1) s) in
    sym (large-unreadable _ s (omega (arith, l.invariant.2, value-turn s l.digit-index l.v (omega arith), grown)))

pub returns-then-most-tens : goal.returns-then-most-tens
returns-then-most-tens c = let l = c.loop-digit in
    let s = c.args.s.now in
    let grown = value_grows (l.v * 10 + (get_or s l.digit-index 0 - 48)) (drop (l.digit-index + 1) s) in
    sym (large-unreadable _ s (omega (arith, l.invariant.2, value-turn s l.digit-index l.v (omega arith), grown)))

pub loop-digit-preserved : goal.loop-digit-preserved
loop-digit-preserved c = let l = c.loop-digit in
    let s = c.args.s.now in
    let digit = digit-between (get_or s l.digit-index 0) (omega arith) (omega arith) in
    let next : get_or s l.digit-index 0 ≡ c.wide-b.result = sym c.wide-b.ensures in (
      l.invariant.0,
      every-goes-on is_digit s l.digit-index (omega arith) l.invariant.1 digit,
      l.invariant.2 ∙ value-turn s l.digit-index l.v (omega arith) ∙ ap (λ b. value_from (l.v * 10 + (b - 48)) (drop (l.digit-index + 1) s)) next,
      omega arith,
    )

pub returns : goal.returns
returns c = let l = c.loop-digit in
    let s = c.args.s.now in
    let most = c.args.most in
    let whole = l.invariant.2 ∙ value-end s l.digit-index l.v (omega arith) in
    let digits = l.invariant.1 ∙ every-behind is_digit s l.digit-index (omega arith) in
    sym (number_read most s l.invariant.0 digits (omega (arith, whole)) ∙ ap Some whole)
