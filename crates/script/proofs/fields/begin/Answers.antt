-- `fields::begin` meets its contract: field `k` of the line is field `left` of what follows.
use Prim.Native.Nat.{suc, ◌+◌, ◌-◌}
use mathlib.Core.Path.{◌≡◌, sym, ap, ◌∙◌}
use native.Mathlib.Omega.{arith}
use lib.ListN.{length, drop}
use Rattle.script.specs.Fields.{field_of}
use Rattle.script.proofs.Line.{later-space, later-byte, field_end}
use Rattle.script.proofs.fields.begin.Goals as goal
use Rattle.script.proofs.fields.begin.Goals.{then-b-eq32, else-b-eq32}

pub returns-then-left-eq0 : goal.returns-then-left-eq0
returns-then-left-eq0 c = let l = c.loop-i in
    (omega arith, l.invariant ∙ ap (field_of (drop l.i c.args.line.now)) c.if-left-eq0.true)

pub loop-i-preserved : goal.loop-i-preserved
loop-i-preserved c = let l = c.loop-i in
    let line = c.args.line.now in
    let some : l.left ≡ suc (l.left - 1) = omega arith in
    let later = l.invariant ∙ ap (field_of (drop l.i line)) some in
    elim c.if-b-eq32.branch [
      | then-b-eq32 w ↦
          let one_less : l.left - 1 ≡ c.if-b-eq32.left = omega arith in
          later ∙ later-space line l.i (omega arith) w.if-b-eq32.true _ ∙ ap (field_of (drop (l.i + 1) line)) one_less
      | else-b-eq32 w ↦
          let same : suc (l.left - 1) ≡ c.if-b-eq32.left = omega arith in
          later ∙ later-byte line l.i (omega arith) w.if-b-eq32.false _ ∙ ap (field_of (drop (l.i + 1) line)) same
    ]

pub returns : goal.returns
returns c = let l = c.loop-i in
    let line = c.args.line.now in
    (omega arith, l.invariant ∙ field_end line l.i (omega arith) l.left ∙ sym (field_end line (length line) (omega arith) 0))
