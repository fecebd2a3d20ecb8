-- `le::read` meets its contract: the loop goes from the highest byte down, and `x` is the number of the bytes passed.
use Rattle.std.proofs.Common.{◌≡◌, suc, ◌+◌, ◌-◌, ◌^◌, ◌<◌, ◌≤◌, sym, pow-suc, arith}
use Rattle.words.proofs.Number.{le_at-none, le_at-more, power-within}
use Rattle.words.proofs.le.read.Goals as goal
use Rattle.words.proofs.le.read.Goals.{In-loop-i}

pub loop-i-init : goal.loop-i-init
loop-i-init c = let e : c.args.n - c.args.n ≡ 0 = omega arith in
    rw e (sym (le_at-none _ _), omega arith)

-- in a turn at most seven bytes have been passed
room : (c : goal.In-loop-i) → c.loop-i.x < 256 ^ 7
room c =
    let few : 256 ^ (c.args.n - c.loop-i.i) ≤ 256 ^ 7 = power-within {k = c.args.n - c.loop-i.i} {m = 7} (omega arith) in
    omega arith

pub overflow_mul-x : goal.overflow_mul-x
overflow_mul-x c = omega (arith, room c)

pub overflow_add-x : goal.overflow_add-x
overflow_add-x c = omega (arith, room (goal.at.overflow_add-x c).In-loop-i)

pub loop-i-preserved : goal.loop-i-preserved
loop-i-preserved c = let a = c.args in
    let l = c.loop-i in
    let passed : a.n - (l.i - 1) ≡ suc (a.n - l.i) = omega arith in
    let place : suc (a.at + (l.i - 1)) ≡ a.at + l.i = omega arith in
    let byte = le_at-more (a.n - l.i) a.s.now (a.at + (l.i - 1)) (omega arith) in (
      rw (passed, byte, place, ← l.invariant.0) (omega arith),
      rw (passed, pow-suc) (omega arith),
    )

pub returns : goal.returns
returns c = let a = c.args in
    let l = c.loop-i in
    let all : a.n - l.i ≡ a.n = omega arith in
    let place : a.at + l.i ≡ a.at = omega arith in
    rw (← all, ← place) (record { value = l.invariant.0; upper_bound = l.invariant.1 })
