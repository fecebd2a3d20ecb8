-- `end::all_checked` meets its contract: the payloads before `i` have status 1.
use Prim.Native.Nat.{◌<◌}
use mathlib.Core.Path.{◌≡◌, refl, ap, ◌∙◌}
use mathlib.Core.List.{List}
use native.Mathlib.Numerals.{add-one}
use native.Mathlib.Omega.{arith}
use lib.ListN.{length}
use Rattle.records.specs.Payload.{empty}
use Rattle.records.specs.declared.payload.Payload.{Payload}
use Rattle.state.specs.Change.{changed_at}
use Rattle.state.specs.State.{checked, with_status, with_payloads}
use Rattle.state.specs.declared.state.State.{State}
use Rattle.state.proofs.Whole.{whole}
use Rattle.steps.specs.Next.{all_checked}
use Rattle.steps.proofs.EndLaws.{first-turn}
use Rattle.steps.proofs.end.all_checked.Goals as goal

pub loop-i-init : goal.loop-i-init
loop-i-init c = refl

pub loop-i-preserved : goal.loop-i-preserved
loop-i-preserved c = let s = c.args.state in
    let i = c.loop-i.i in
    let inside : i < length s.payloads = omega (arith, (whole s _ c.well_formed.0).payloads) in
    c.set_status-next.ensures
    ∙ ap (λ (n : State). changed_at (with_status checked) n i) c.loop-i.invariant
    ∙ rw (add-one i) (ap (λ (ps : List Payload). with_payloads ps s) (first-turn (with_status checked) s.payloads i empty inside))

pub returns : goal.returns
unfolding all_checked
returns c = let all : c.loop-i.i ≡ c.args.state.count = omega arith in
    rw all at c.loop-i.invariant
