-- `be::read` meets its contract: `x` is the number of the first `i` bytes.
use Rattle.std.proofs.Common.{◌≡◌, ◌^◌, ◌<◌, ◌≤◌, sym, pow-suc, add-one, arith}
use Rattle.words.proofs.Number.{be_at-none, be_at-more, power-within}
use Rattle.words.proofs.be.read.Goals as goal
use Rattle.words.proofs.be.read.Goals.{In-loop-i}

pub loop-i-init : goal.loop-i-init
loop-i-init c = (sym (be_at-none _ _), omega arith)

-- in a turn at most seven bytes have been passed
room : (c : goal.In-loop-i) → c.loop-i.x < 256 ^ 7
room c =
    let few : 256 ^ c.loop-i.i ≤ 256 ^ 7 = power-within {k = c.loop-i.i} {m = 7} (omega arith) in
    omega arith

pub overflow_mul-x : goal.overflow_mul-x
overflow_mul-x c = omega (arith, room c)

pub overflow_add-x : goal.overflow_add-x
overflow_add-x c = omega (arith, room (goal.at.overflow_add-x c).In-loop-i)

pub loop-i-preserved : goal.loop-i-preserved
loop-i-preserved c = let a = c.args in
    let l = c.loop-i in
    let byte = be_at-more l.i a.s.now a.at (omega arith) in (
      rw (add-one, byte, ← l.invariant.0) (omega arith),
      rw (add-one, pow-suc) (omega arith),
    )

pub returns : goal.returns
returns c = let a = c.args in
    let l = c.loop-i in
    let all : l.i ≡ a.n = omega arith in
    rw (← all) (record { value = l.invariant.0; upper_bound = l.invariant.1 })
