-- `form_ok` meets its contract: the opaque bytes are the 31 that follow the version.
use Prim.Native.Nat.{◌+◌, ◌-◌}
use mathlib.Core.Path.{◌≡◌}
use native.Mathlib.Omega.{arith}
use borrow.Author.Tests.{eq-eqb, ne_eqb}
use Rattle.words.specs.Splice.{part}
use Rattle.records.specs.Limits.{record_size}
use Rattle.functions.specs.Edits.{form_ok}
use Rattle.functions.proofs.edits.form_ok.Goals as goal

pub returns-then-f-ne1 : goal.returns-then-f-ne1
unfolding form_ok
returns-then-f-ne1 c = simp (ne_eqb _ _ c.if-f-ne1.true)

pub returns : goal.returns
unfolding form_ok part
returns c = let at = c.args.at in
    let size : at + record_size - (at + 33) ≡ 31 = omega arith in
    rw (c.all_zero.ensures, size, eq-eqb _ _ c.if-f-ne1.false)
