-- `preparing::ranges_ok` meets its contract: ends are compared by what is left up to 2^64.
use Prim.Native.Nat.{◌+◌, ◌^◌, ◌≤◌, ◌<◌}
use mathlib.Core.Bool.{and-false}
use native.Mathlib.Omega.{arith}
use borrow.Author.Tests.{le-leb, lt-leb, eq-eqb, ne_eqb}
use Rattle.records.specs.Limits.{placed_max}
use Rattle.audit.specs.Preparing.{ranges_ok}
use Rattle.audit.proofs.preparing.ranges_ok.Goals as goal

pub returns-then-host-lt1 : goal.returns-then-host-lt1
unfolding ranges_ok
returns-then-host-lt1 c = simp (lt-leb _ _ c.if-host-lt1.true)

pub returns-then-host-gt-TEXT_MAX : goal.returns-then-host-gt-TEXT_MAX
unfolding ranges_ok
returns-then-host-gt-TEXT_MAX c = simp (lt-leb _ _ c.if-host-gt-TEXT_MAX.true, and-false)

pub returns-then-host : goal.returns-then-host
unfolding ranges_ok
returns-then-host c = let host = c.args.host in
    let past : 2 ^ 64 < host.text + host.text_length = omega arith in
    simp (lt-leb _ _ past, and-false)

pub returns-then-host-lt1-2 : goal.returns-then-host-lt1-2
unfolding ranges_ok
returns-then-host-lt1-2 c = simp (lt-leb _ _ c.if-host-lt1-2.true, and-false)

pub returns-then-host-2 : goal.returns-then-host-2
unfolding ranges_ok
returns-then-host-2 c = let host = c.args.host in
    let past : 2 ^ 64 < host.slot + placed_max = omega arith in
    simp (lt-leb _ _ past, and-false)

pub returns-then-host-ne0 : goal.returns-then-host-ne0
unfolding ranges_ok
returns-then-host-ne0 c = simp (ne_eqb _ _ c.if-host-ne0.true, and-false)

pub returns : goal.returns
unfolding ranges_ok
returns c = let host = c.args.host in
    let text-ends : host.text + host.text_length ≤ 2 ^ 64 = omega arith in
    let slot-ends : host.slot + placed_max ≤ 2 ^ 64 = omega arith in
    simp (
      le-leb _ _ c.if-host-lt1.false,
      le-leb _ _ c.if-host-gt-TEXT_MAX.false,
      le-leb _ _ text-ends,
      le-leb _ _ c.if-host-lt1-2.false,
      le-leb _ _ slot-ends,
      eq-eqb _ _ c.if-host-ne0.false,
    )
    c.is_apart.ensures
