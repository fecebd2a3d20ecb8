-- `fields::end` meets its contract: the bytes so far and the rest of the field are the field.
use mathlib.Core.Path.{◌≡◌}
use native.Mathlib.Omega.{arith}
use lib.ListN.{length}
use Rattle.script.proofs.Line.{first-space, first_byte, field_end, field-begins, field-ends, field-goes-on}
use Rattle.script.proofs.fields.end.Goals as goal

pub loop-i-init : goal.loop-i-init
loop-i-init c = field-begins c.args.line.now c.args.from

pub returns-then-line-i-eq32 : goal.returns-then-line-i-eq32
returns-then-line-i-eq32 c = let l = c.loop-i in
    let line = c.args.line.now in
    (omega arith, omega arith, field-ends line _ l.i (first-space line l.i (omega arith) c.if-line-i-eq32.true) l.invariant)

pub loop-i-preserved : goal.loop-i-preserved
loop-i-preserved c = let l = c.loop-i in
    let line = c.args.line.now in
    let goes_on = first_byte line l.i (omega arith) c.if-line-i-eq32.false in
    field-goes-on line _ l.i (omega arith) (omega arith) goes_on l.invariant

pub returns : goal.returns
returns c = let l = c.loop-i in
    let line = c.args.line.now in
    let last : l.i ≡ length line = omega arith in
    (omega arith, omega arith, rw (← last) (field-ends line _ l.i (field_end line l.i (omega arith) 0) l.invariant))
