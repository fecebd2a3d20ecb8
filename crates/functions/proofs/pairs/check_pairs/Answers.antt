-- `check_pairs` meets its contract. Each loop's invariant: the scan from its number on is the scan from 0 on.
use Rattle.std.proofs.Common.{Ok}
use Prim.Native.Nat.{ℕ, ◌<◌, ◌≤◌}
use mathlib.Core.Path.{◌≡◌, sym, ◌∙◌}
use mathlib.Core.Bool.{true}
use mathlib.Core.List.{List}
use native.Mathlib.Omega.{arith}
use lib.ListN.{length, get_or, take}
use Rattle.std.proofs.lemmas.List.{get_or-take, length-take}
use Rattle.words.proofs.Scan.{turn, end}
use Rattle.records.specs.declared.payload.Edit.{Edit}
use Rattle.records.specs.declared.payload.EditKind.TheVariants.{Jump}
use Rattle.records.proofs.Edits.{copied}
use Rattle.functions.specs.Pairs.{edit_in, touched, one_pair, pair_rules}
use Rattle.functions.proofs.pairs.check_pairs.Goals as goal
use Rattle.functions.proofs.pairs.check_pairs.Goals.{else-loop-j-test, then-loop-j-test+then-loop-earlier-test+then-touching}

-- an edit of the first n, as a loop has it
listed :
    (es : List Edit) (n i : ℕ) → i < n → n ≤ length es →
    edit_in es i ≡ get_or (take n es) i (record { offset = 0; length = 0; kind = Jump 0 })
listed es n i h g = copied es i (omega arith) ∙ sym (get_or-take n es i _ h)

pub loop-earlier-preserved : goal.loop-earlier-preserved
loop-earlier-preserved c =
    let es = c.args.edits in
    let j = c.loop-j.j in
    let below : c.loop-earlier.earlier-index < j = omega (arith, length-take {A = Edit}) in
    c.loop-earlier.invariant
    ∙ turn _ _ _ _ below
    ∙ rw (listed es j _ below (omega (arith, length-take {A = Edit})), ← c.touching.ensures, c.if-touching.false)

pub loop-j-preserved : goal.loop-j-preserved
loop-j-preserved c =
    let es = c.args.edits in
    let below : c.loop-j.j < c.args.count = omega (arith, length-take {A = Edit}) in
    let past : c.loop-j.j ≤ c.loop-earlier.earlier-index = omega (arith, length-take {A = Edit}) in
    c.loop-j.invariant
    ∙ turn _ _ _ _ below
    ∙ rw (listed es c.args.count _ below (omega arith), c.loop-earlier.invariant, end _ _ _ _ past)

-- the ways out of the loops: the label, by which the inner one is left after a touch, and the outer one's end
pub returns-in-Some : goal.returns-in-Some
unfolding pair_rules
returns-in-Some c =
    let es = c.args.edits in
    let j = c.loop-j.j in
    elim c.loop-j-test.branch [
      | else-loop-j-test w ↦ absurd (cc)
      | then-loop-j-test+then-loop-earlier-test+then-touching w ↦
          let same : c.in-Some.j ≡ j = cc in
          let below : j < c.args.count = omega (arith, length-take {A = Edit}, w.loop-j-test.true) in
          let before : w.loop-earlier.earlier-index < j = omega (arith, length-take {A = Edit}, w.loop-earlier-test.true) in
          let touches : touched es (edit_in es j) j ≡ true =
          rw (listed es c.args.count j below (omega arith))
          (w.loop-earlier.invariant
          ∙ turn _ _ _ _ before
          ∙ rw (listed es j _ before (omega arith), ← w.touching.ensures, w.if-touching.true)) in
          rw (c.refused.ensures, same, c.loop-j.invariant, turn (one_pair es) (Ok tt) _ _ below, touches)
    ]

pub returns-in-None : goal.returns-in-None
unfolding pair_rules
returns-in-None c =
    elim c.loop-j-test.branch [
      | then-loop-j-test+then-loop-earlier-test+then-touching w ↦ absurd (cc)
      | else-loop-j-test w ↦
          let past : c.args.count ≤ c.loop-j.j = omega (arith, length-take {A = Edit}, w.loop-j-test.false) in
          sym (c.loop-j.invariant ∙ end _ _ _ _ past)
    ]
