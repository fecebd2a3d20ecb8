-- `be::write` meets its contract: the loop goes from the lowest byte up, from the last place down. The bytes from `i` on are laid, and `y` is what is left of the number.
use Rattle.std.proofs.Common.{◌≡◌, suc, ◌+◌, ◌-◌, sym, div-one, arith}
use Rattle.words.proofs.Number.{rest_more, be_bytes-none, be_bytes-more}
use Rattle.words.proofs.Splice.{splice-none, splice-cons}
use Rattle.words.proofs.be.write.Goals as goal

pub loop-i-init : goal.loop-i-init
loop-i-init c = let a = c.args in
    let none : a.n - a.n ≡ 0 = omega arith in
    rw none (sym (div-one _), sym (rw (be_bytes-none a.x) (splice-none _ _)))

pub loop-i-preserved : goal.loop-i-preserved
loop-i-preserved c = let a = c.args in
    let l = c.loop-i in
    let left : a.n - (l.i - 1) ≡ suc (a.n - l.i) = omega arith in
    let place : a.at + l.i ≡ suc (a.at + (l.i - 1)) = omega arith in (
      rw (left, l.invariant.0) (rest_more (a.n - l.i) a.x),
      rw (left, be_bytes-more, l.invariant.1, l.invariant.0, place) (splice-cons a.s.now (a.at + (l.i - 1)) _ _ (omega arith)),
    )

pub returns : goal.returns
returns c = let a = c.args in
    let l = c.loop-i in
    let all : a.n - l.i ≡ a.n = omega arith in
    let place : a.at + l.i ≡ a.at = omega arith in
    rw (← all, ← place) l.invariant.1
