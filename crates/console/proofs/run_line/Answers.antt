-- `run_line` meets its contract: what is written lies within `out`.
use Rattle.std.proofs.Common.{arith, sym, length-take-le}
use Rattle.console.proofs.Kept.{written-within}
use Rattle.console.proofs.run_line.Goals as goal

pub shared_ref_as_front-write : goal.shared_ref_as_front-write
shared_ref_as_front-write c = let line = c.line-stepped in
    omega (arith, written-within _ _ _ _ line.ensures.out, line.auto.out)

pub slice_bounds-write-end : goal.slice_bounds-write-end
slice_bounds-write-end c = sym (length-take-le _ _ (written-within _ _ _ _ c.line-stepped.ensures.out))
