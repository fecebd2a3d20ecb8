-- `working::work` meets its contract: the first test that fails refuses; else the step is made and the state goes on.
use Prim.Native.Nat.{◌≤◌}
use mathlib.Core.Path.{◌≡◌, refl, sym, ap, ◌∙◌}
use mathlib.Core.Bool.{true}
use native.Mathlib.Omega.{arith}
use borrow.Author.Tests.{ne_eqb}
use lib.ListN.{length}
use Rattle.words.proofs.Tests.{held, refuted}
use Rattle.memory.specs.Config.{cpus_max}
use Rattle.memory.specs.declared.config.Config.{Config}
use Rattle.memory.proofs.Laws.{valid-config}
use Rattle.state.specs.State.{is_standing}
use Rattle.state.specs.declared.state.Job.{Job}
use Rattle.state.specs.declared.state.State.{State}
use Rattle.ranges.specs.Ranges.{in_range}
use Rattle.ranges.proofs.Laws.{InRange}
use Rattle.rendezvous.specs.Rendezvous.{is_complete}
use Rattle.state_bytes.specs.Stored.{state_in}
use Rattle.state_bytes.proofs.Laws.{state-length, holds-still, whole_in}
use Rattle.steps.proofs.StepLaws.{next-of-record}
use Rattle.work.specs.Work.{Lent, lent, work_sizes_ok}
use Rattle.work.proofs.EditLaws.{sizes-told, ready}
use Rattle.in_place.proofs.Laws.{ranges-of, all-complete}
use Rattle.work_in_place.proofs.Laws.{stepped, work-out, work-idle, work-early, work-made, ready_read, made-read}
use Rattle.work_in_place.proofs.working.work.Goals as goal
use Rattle.work_in_place.proofs.working.work.Goals.{Else-not-sizes_ok, Else-job-eq0, After-all_held}

pub returns-then-not-sizes_ok : goal.returns-then-not-sizes_ok
returns-then-not-sizes_ok c = stepped
    (work-out (state_in c.args.b.now) (lent c.args.text.now c.args.undo.now) (refuted c.sizes_ok.ensures c.if-not-sizes_ok.true))
    c.refused.ensures (holds-still _ c.requires) refl

-- the sizes are right
module _ (c : goal.Else-not-sizes_ok) where
  abbrev state-of : State
  state-of = state_in c.args.b.now

  -- both stores as they came
  abbrev given : Lent
  given = lent c.args.text.now c.args.undo.now

  sized : work_sizes_ok state-of (length given.text) (length given.undo) ≡ true
  sized = held c.sizes_ok.ensures c.if-not-sizes_ok.false

  in-ranges : in_range state-of ≡ true
  in-ranges = (sizes-told _ _ _ sized).0

  ranges : InRange state-of
  ranges = ranges-of _ (state-length _ c.requires) in-ranges

pub returns-then-job-eq0 : goal.returns-then-job-eq0
returns-then-job-eq0 c = let right = (goal.at.returns-then-job-eq0 c).Else-not-sizes_ok in
    let idle = ap (λ (j : Job). j.action) (sym c.job-job.ensures) ∙ c.if-job-eq0.true in
    stepped (work-idle (state-of right) (given right) (sized right) idle) c.refused-then-job-eq0.ensures (holds-still _ c.requires) refl

-- and a job stands
module _ (c : goal.Else-job-eq0) where
  abbrev state-now : State
  state-now = state_in c.args.b.now

  job_read : c.job-job.result ≡ state-now.job
  job_read = c.job-job.ensures

  acts : state-now.job.action ≡ 0 → ⊥
  acts e = c.if-job-eq0.false (ap (λ (j : Job). j.action) job_read ∙ e)

  standing : is_standing state-now.job ≡ true
  standing = rw (ne_eqb _ _ acts)

few : (c : goal.Else-not-sizes_ok) → (state-of c).config.cpus ≤ cpus_max
few c = (valid-config _ (ranges c).config).cpus_max

-- whether all CPUs are held
complete : (c : goal.After-all_held) → c.all_held.result ≡ is_complete (state_in c.args.b.now)
complete c = c.all_held.ensures ∙ all-complete (state_in c.args.b.now) c.job-job.ensures c.config-config.ensures

pub returns-then-not-all_held : goal.returns-then-not-all_held
returns-then-not-all_held c = let right = (goal.at.returns-then-not-all_held c).Else-not-sizes_ok in
    stepped
    (work-early (state-of right) (given right) (sized right) (acts (goal.at.returns-then-not-all_held c).Else-job-eq0)
    (refuted (complete (goal.at.returns-then-not-all_held c).After-all_held) c.if-not-all_held.true))
    c.refused-then-not-all_held.ensures (holds-still _ c.requires) refl

-- all are: the step that was found
pub make-requires : goal.make-requires
make-requires c = let right = (goal.at.make-requires c).Else-not-sizes_ok in
    let r = ranges right in
    let sizes = sizes-told _ _ _ (sized right) in
    let whole = whole_in _ (state-length _ c.requires) in
    ready_read (state-of right) (given right) c.step_now-step.ensures c.config-config.ensures
    (ready (next-of-record whole r (r.job (standing (goal.at.make-requires c).Else-job-eq0))) (given right) sizes.1 sizes.2)

pub next-requires : goal.next-requires
next-requires c = (c.requires, in-ranges (goal.at.next-requires c).Else-not-sizes_ok, standing (goal.at.next-requires c).Else-job-eq0)

pub returns : goal.returns
returns c = let right = (goal.at.returns c).Else-not-sizes_ok in
    let s = state-of right in
    let l = given right in
    let whole-hold = held (complete (goal.at.returns c).After-all_held) c.if-not-all_held.false in
    stepped (work-made s l (sized right) (acts (goal.at.returns c).Else-job-eq0) whole-hold) refl c.next.ensures
    (made-read s l c.step_now-step.ensures c.config-config.ensures c.make.ensures)

pub sizes_ok-requires : goal.sizes_ok-requires
sizes_ok-requires c = state-length _ c.requires

pub job-job-requires : goal.job-job-requires
job-job-requires c = state-length _ c.requires

pub config-config-requires : goal.config-config-requires
config-config-requires c = state-length _ c.requires

pub all_held-requires : goal.all_held-requires
all_held-requires c = omega (arith, ap (λ (x : Config). x.cpus) c.config-config.ensures, few (goal.at.all_held-requires c).Else-not-sizes_ok)

pub step_now-step-requires : goal.step_now-step-requires
step_now-step-requires c = (
  state-length _ c.requires,
  in-ranges (goal.at.step_now-step-requires c).Else-not-sizes_ok,
  standing (goal.at.step_now-step-requires c).Else-job-eq0,
)
