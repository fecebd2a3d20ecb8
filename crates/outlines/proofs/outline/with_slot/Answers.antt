-- `outline::with_slot` meets its contract: what is found from payload `i` on is what is found from the first on.
use Rattle.std.proofs.Common.{Some}
use Prim.Native.Nat.{ℕ, ◌+◌, ◌≤◌, ◌<◌}
use mathlib.Core.Bool.{cond}
use mathlib.Core.Path.{◌≡◌, refl, sym, ◌∙◌}
use native.Mathlib.Omega.{arith}
use borrow.Author.Tests.{eq-eqb, ne_eqb}
use lib.Dec.{eqb}
use lib.ListN.{length, get_or, take, drop}
use lib.Seq.{length-take-le}
use Rattle.std.proofs.lemmas.List.{get_or-take}
use Rattle.words.specs.Find.{where_from}
use Rattle.words.proofs.Find.{where-turn, where-end}
use Rattle.records.specs.Payload.{empty}
use Rattle.state.specs.Find.{with_slot, is_in}
use Rattle.state.specs.State.{loaded}
use Rattle.state.specs.declared.state.State.{State}
use Rattle.outlines.specs.Outline.{Outlines}
use Rattle.outlines.specs.declared.outline.Outline.{Outline}
use Rattle.outlines.proofs.outline.with_slot.Goals as goal
use Rattle.outlines.proofs.outline.with_slot.Goals.{In-loop-i}

pub loop-i-init : goal.loop-i-init
unfolding with_slot
loop-i-init c = λ s h. refl

-- at the payload in question
module _ (c : goal.In-loop-i) where
  abbrev o : Outline
  o = c.args.outline

  abbrev i : ℕ
  i = c.loop-i.i

  turn :
      (s : State) → Outlines o s → (slot : ℕ) →
      where_from (is_in slot) i (drop i (loaded s))
      ≡ cond (eqb (get_or (take o.count o.slots) i 0) slot) (Some i) (where_from (is_in slot) (i + 1) (drop (i + 1) (loaded s)))
  turn s h slot =
      let counted : i < o.count = omega (arith, length-take-le {A = ℕ}) in
      let here : i < s.count = omega (arith, h.count) in
      let fits : s.count ≤ length s.payloads = omega (arith, h.count, h.listed) in
      rw (get_or-take o.count o.slots i 0 counted, h.slots i here) (where-turn (is_in slot) s.payloads s.count i fits empty here)

pub returns-then-used-slot : goal.returns-then-used-slot
returns-then-used-slot c = (
  λ s h. sym (c.loop-i.invariant s h ∙ turn (goal.at.returns-then-used-slot c).In-loop-i s h _ ∙ rw (eq-eqb _ _ c.if-used-slot.true)),
  λ j e.
      let same : c.loop-i.i ≡ j = cc in
      omega (arith, length-take-le {A = ℕ}),
)

pub loop-i-preserved : goal.loop-i-preserved
loop-i-preserved c = λ s h.
    c.loop-i.invariant s h
    ∙ turn (goal.at.loop-i-preserved c).In-loop-i s h _
    ∙ rw (ne_eqb _ _ c.if-used-slot.false)

pub returns : goal.returns
returns c = (
  λ s h.
      let fits : s.count ≤ length s.payloads = omega (arith, h.count, h.listed) in
      let ended : s.count ≤ c.loop-i.i = omega (arith, h.count, length-take-le {A = ℕ}) in
      sym (c.loop-i.invariant s h ∙ where-end _ _ _ _ fits ended),
  λ j e.
      let never : ◌≡◌ {A = ℕ} 0 1 = cc in
      absurd (omega arith),
)
