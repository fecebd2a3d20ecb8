-- `le::write` meets its contract: the first `i` bytes are written, and `y` is what is left of the number.
use Rattle.std.proofs.Common.{◌≡◌, ◌-◌, sym, arith}
use Rattle.words.proofs.Number.{length-le_bytes, next-byte}
use Rattle.words.proofs.Written.{written_none, written-more, written_all}
use Rattle.words.proofs.le.write.Goals as goal

pub loop-i-init : goal.loop-i-init
loop-i-init c = let all : c.args.n - 0 ≡ c.args.n = omega arith in
    (written_none _ _ _, rw all)

pub loop-i-preserved : goal.loop-i-preserved
loop-i-preserved c = let a = c.args in
    let l = c.loop-i in
    let size = length-le_bytes a.n a.x in
    let next = next-byte a.n l.i a.x l.y (omega arith) l.invariant.1 in
    (written-more _ _ _ _ l.invariant.0 _ (omega arith) (omega arith) (sym next.0), next.1)

pub returns : goal.returns
returns c = let a = c.args in
    written_all _ _ _ _ c.loop-i.invariant.0 (omega (arith, length-le_bytes a.n a.x))
