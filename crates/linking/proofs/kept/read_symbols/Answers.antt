-- `read_symbols` meets its contract: the cell of every number below `i` says what its symbol is worth.
use native.Mathlib.Omega.{arith}
use lib.ListN.{length-set}
use Rattle.linking.proofs.KeptLaws.{holds-written}
use Rattle.linking.proofs.kept.read_symbols.Goals as goal

pub loop-i-init : goal.loop-i-init
loop-i-init c = (c.requires.0, λ l stands same j h. absurd (omega arith))

pub loop-i-preserved : goal.loop-i-preserved
loop-i-preserved c = let loop = c.loop-i in
    let so_far = loop.invariant.1 in (
      simp length-set loop.invariant.0,
      λ l stands same j h.
          let new = c.cell_at.ensures l stands same in
          holds-written l loop.cells loop.i _ new (omega arith) j (λ other. so_far l stands same j (omega arith)),
    )

pub returns : goal.returns
returns c = λ l stands same.
    let loop = c.loop-i in
    record {
      all = loop.invariant.0;
      short = rw same c.requires.1;
      each = λ number h. loop.invariant.1 l stands same number (omega arith);
    }
