-- `work::work` meets its contract: the first test that fails refuses; else the step is made and the state goes on.
use Rattle.std.proofs.Common.{Ok}
use mathlib.Core.Path.{◌≡◌, ap, ◌∙◌}
use mathlib.Core.Bool.{true}
use borrow.Author.Rules.{rules}
use borrow.Author.Tests.{eq-eqb, ne_eqb}
use lib.ListN.{length}
use Rattle.words.proofs.Tests.{held, refuted}
use Rattle.machine.specs.Host.{machine_of}
use Rattle.machine.specs.declared.processor.Processor.{Processor}
use Rattle.state.specs.State.{is_standing}
use Rattle.state.specs.declared.state.Called.{Called}
use Rattle.state.specs.declared.state.State.{State}
use Rattle.state.specs.declared.steps.Step.{Step}
use Rattle.state.proofs.Whole.{whole}
use Rattle.ranges.specs.Ranges.{in_range}
use Rattle.ranges.proofs.Laws.{in-range}
use Rattle.rendezvous.specs.Rendezvous.{is_complete}
use Rattle.steps.specs.Next.{step_now, worked}
use Rattle.steps.proofs.StepLaws.{next-of-record}
use Rattle.work.specs.Work.{Lent, lent, Worked, work_sizes_ok, work_rules, made, worked_with, work_of}
use Rattle.work.proofs.EditLaws.{sizes-told, ready}
use Rattle.work.proofs.work.work.Statement.{statement}
use Rattle.work.proofs.work.work.Tie as tie

-- text and undo store as they came
abbrev given : tie.Start → Lent
given c = lent c.args.text.now c.args.undo.now

returns-then-not-sizes_ok : tie.Need-returns-then-not-sizes_ok
unfolding work_of work_rules
returns-then-not-sizes_ok c = ap (λ (r : Called). worked_with r (given c.before.before.before.before.before)) c.refused.ensures
    ∙ simp (refuted c.sizes_ok.ensures c.if-not-sizes_ok.true)

-- the sizes are right
module _ (c : tie.Else-not-sizes_ok) where
  abbrev begun : tie.Start
  begun = c.before.before.before.before

  sized : work_sizes_ok begun.args.state (length (given begun).text) (length (given begun).undo) ≡ true
  sized = held c.sizes_ok.ensures c.if-not-sizes_ok.false

returns-then-job-eq0 : tie.Need-returns-then-job-eq0
unfolding work_of work_rules
returns-then-job-eq0 c = ap (λ (r : Called). worked_with r (given (begun c.before.before.before.before))) c.refused-then-job-eq0.ensures
    ∙ simp (sized c.before.before.before.before, eq-eqb _ _ c.if-job-eq0.true)

-- and a job stands
module _ (c : tie.Else-job-eq0) where
  abbrev right : tie.Else-not-sizes_ok
  right = c.before.before.before

  ranged : in_range (begun right).args.state ≡ true
  ranged = (sizes-told _ _ _ (sized right)).0

  standing : is_standing (begun right).args.state.job ≡ true
  standing = rw (ne_eqb _ _ c.if-job-eq0.false)

returns-then-not-is_complete : tie.Need-returns-then-not-is_complete
unfolding work_of work_rules
returns-then-not-is_complete c = ap (λ (r : Called). worked_with r (given (begun (right c.before.before.before)))) c.refused-then-not-is_complete.ensures
    ∙ simp (sized (right c.before.before.before), standing c.before.before.before, refuted c.is_complete.ensures c.if-not-is_complete.true)

make-requires : tie.Need-make-requires
make-requires c κs = let start = begun (right c.before.before.before.before.before.before) in
    let s = start.args.state in
    let w = whole s _ start.well_formed.0 in
    let r = in-range w (ranged c.before.before.before.before.before.before) in
    let sizes = sizes-told _ _ _ (sized (right c.before.before.before.before.before.before)) in
    rw c.step_now-step.ensures (ready (next-of-record w r (r.job (standing c.before.before.before.before.before.before))) (given start) sizes.1 sizes.2)

next_state-next-requires : tie.Need-next_state-next-requires
next_state-next-requires c κs = (ranged c.before.before.before.before.before.before.before.before.before.before.before, standing c.before.before.before.before.before.before.before.before.before.before.before)

-- all tests passed: the state and the stores after a step
abbrev passed : State → Lent → Worked
passed s after = record { answer = Ok tt; state = s; after = after }

same-passed : {s t : State} {l m : Lent} → s ≡ t → l ≡ m → passed s l ≡ passed t m
same-passed {s} {t} {l} {m} e f = ap (λ (x : State). passed x l) e ∙ ap (λ (x : Lent). passed t x) f

same-made : (p : Processor) (l : Lent) {k n : Step} {after : Lent} → k ≡ n → after ≡ made (machine_of p) k l → after ≡ made (machine_of p) n l
same-made p l e f = f ∙ ap (λ (x : Step). made (machine_of p) x l) e

accepts :
    (s : State) (l : Lent) → work_sizes_ok s (length l.text) (length l.undo) ≡ true → is_standing s.job ≡ true → is_complete s ≡ true →
    passed (worked s) (made (machine_of s.config.processor) (step_now s) l) ≡ work_of s l
unfolding work_of work_rules
accepts s l h g f = rw (h, g, f)

returns : tie.Need-returns
returns c = let s = (begun (right c.before.before.before.before.before.before.before.before.before.before.before.before)).args.state in
    let l = given (begun (right c.before.before.before.before.before.before.before.before.before.before.before.before)) in
    same-passed
    c.next_state-next.ensures
    (same-made s.config.processor l c.step_now-step.ensures c.make.ensures)
    ∙ accepts s l (sized (right c.before.before.before.before.before.before.before.before.before.before.before.before)) (standing c.before.before.before.before.before.before.before.before.before.before.before.before) (held c.is_complete.ensures c.if-not-is_complete.false)

is_complete-requires : tie.Need-is_complete-requires
is_complete-requires c κs = ranged c

step_now-step-requires : tie.Need-step_now-step-requires
step_now-step-requires c κs = (ranged c.before.before.before, standing c.before.before.before)

pub work_spec : {M : Type 1} → statement M
work_spec =
    tie.close (tie.spec (λ c κs. search rules) (λ c κs. search rules) returns-then-not-sizes_ok (λ c κs. search rules) returns-then-job-eq0 is_complete-requires (λ c κs. search rules) returns-then-not-is_complete step_now-step-requires make-requires next_state-next-requires (λ c. search rules) (λ c. search rules) returns)
