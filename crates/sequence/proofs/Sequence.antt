-- The claim about every sequence of calls: an accepted start-up leaves memory that stands for the model, and each call keeps it so.
use Rattle.records.specs.Refusal.{Verdict}
use Rattle.std.proofs.Common.{Ok}
use Prim.Native.Nat.{ℕ}
use mathlib.Core.Path.{◌≡◌, refl, ap, ap₂, subst⁻¹, ◌∙◌}
use mathlib.Core.List.{List, [], ◌∷◌, map}
use Rattle.state.specs.declared.state.Called.{Called}
use Rattle.actions.specs.Actions as actions
use Rattle.upload.specs.Upload as upload
use Rattle.rendezvous.specs.Rendezvous.{report_of, tick_of}
use Rattle.work.specs.Work as work
use Rattle.model.specs.Calls.{Call, Upload, Act, Report, Tick, Work, Reply, HandsOut}
use Rattle.model.specs.Model.{Start, Loaded, Model, opened}
use Rattle.model.specs.Step.{step, after, replies}
use Rattle.invariant.specs.Sound.{Sound}
use Rattle.invariant.proofs.Jobs.{jobs}
use Rattle.invariant.proofs.Step.{sound-step, sound-after}
use Rattle.invariant.proofs.Facts.{steps-few}
use Rattle.refinement.specs.Replies.{tells_of}
use Rattle.refinement.specs.Stands.{Loader, record_of, Stands}
use Rattle.refinement.proofs.Actions.{ActionAgrees, act-agrees}
use Rattle.refinement.proofs.Lookups.{name-of-record}
use Rattle.refinement.proofs.Queries.{listing_reply, get-agrees, list-agrees, top-id-agrees}
use Rattle.refinement.proofs.Rendezvous as rendezvous
use Rattle.refinement.proofs.Upload.{UploadAgrees, upload-agrees}
use Rattle.refinement.proofs.Work as working
use Rattle.sequence.specs.Claim.{kept, modelled, Matches, EverySequence}
use Rattle.sequence.specs.Run.{
  Started,
  by_start,
  Turn,
  by_upload,
  by_get,
  by_list,
  by_act,
  by_report,
  by_tick,
  by_work,
  by_top_id,
  Run,
  end,
  then,
}
use Rattle.sequence.proofs.Start.{start-stands}

-- ---- one call

-- what a call answered and left is its definition's
module _ {u : Loader} {l : Model} (k : Stands u l) (sound : Sound l) where
  upload-turn :
      (name list file : List ℕ) {x : upload.Uploaded} →
      x ≡ upload.upload_of u.state (upload.lent u.arena u.ids) (upload.request name list file) →
      UploadAgrees u x (step l (Upload name list file))
  upload-turn name list file e =
      subst⁻¹ (λ (y : upload.Uploaded). UploadAgrees u y (step l (Upload name list file))) e (upload-agrees k sound name list file)

  act-turn :
      (name : List ℕ) (command time : ℕ) {x : actions.Acted} →
      x ≡ actions.action_of u.state u.build_id (actions.lent u.arena u.undo u.ids) (actions.request name command time) →
      ActionAgrees u x (step l (Act name command time))
  act-turn name command time e =
      subst⁻¹ (λ (y : actions.Acted). ActionAgrees u y (step l (Act name command time))) e (act-agrees k sound name command time)

  report-turn : (cpu : ℕ) {x : Called} → x ≡ report_of u.state cpu → rendezvous.Agrees u x (step l (Report cpu))
  report-turn cpu e = subst⁻¹ (λ (y : Called). rendezvous.Agrees u y (step l (Report cpu))) e (rendezvous.report-agrees k sound cpu)

  tick-turn : {x : Called} → x ≡ tick_of u.state → rendezvous.Agrees u x (step l Tick)
  tick-turn e = subst⁻¹ (λ (y : Called). rendezvous.Agrees u y (step l Tick)) e (rendezvous.tick-agrees k sound)

  work-turn : {x : work.Worked} → x ≡ work.work_of u.state (work.lent u.text u.undo) → working.Agrees u x (step l Work)
  work-turn e = subst⁻¹ (λ (y : work.Worked). working.Agrees u y (step l Work)) e (working.work-agrees k sound)

pub turn-agrees :
    {u u' : Loader} {c : Call} {a : Reply} (l : Model) → Turn u c a u' → Stands u l → Sound l →
    (a ≡ (step l c).reply) × Stands u' (step l c).model
unfolding step
turn-agrees l (by_upload κs s text arena undo ids build_id name symbols file r arena' ids' learnt) k sound =
    upload-turn k sound name.now symbols.now file.now learnt.equal
turn-agrees l (by_get κs u name r learnt) k sound = (ap tells_of learnt ∙ get-agrees k sound name.now, k)
turn-agrees l (by_list κs u idx nr statuses names lengths r statuses' names' lengths' learnt) k sound = (
  ap listing_reply learnt ∙ list-agrees k sound idx nr (record { statuses = statuses.now; names = names.now; lengths = lengths.now }),
  k,
)
turn-agrees l (by_act κs s text arena undo ids build_id name command time r arena' undo' ids' learnt) k sound =
    act-turn k sound name.now command time learnt
turn-agrees l (by_report κs s text arena undo ids build_id cpu r learnt) k sound = report-turn k sound cpu learnt
turn-agrees l (by_tick κs s text arena undo ids build_id r learnt) k sound = tick-turn k sound learnt
turn-agrees l (by_work κs s text arena undo ids build_id r text' undo' learnt) k sound = work-turn k sound learnt
turn-agrees l (by_top_id κs s text arena undo ids build_id r learnt) k sound =
    (ap HandsOut (learnt.equal ∙ top-id-agrees k sound), k)

-- ---- a run

run-agrees :
    {u u' : Loader} {cs : List Call} {rs : List Reply} (l : Model) → Run u cs rs u' → Stands u l → Sound l →
    (rs ≡ replies l cs) × Stands u' (after l cs)
unfolding replies after
run-agrees l end k sound = (refl, k)
run-agrees l (then {c = c} turn rest) k sound =
    let one = turn-agrees l turn k sound in
    let others = run-agrees (step l c).model rest one.1 (sound-step c sound) in
    (ap₂ ◌∷◌ one.0 others.0, others.1)

-- ---- the claim

listed_same : (p : Loaded) → kept (record_of p) ≡ modelled p
unfolding record_of
listed_same p = rw (name-of-record p) refl

map_same : (ps : List Loaded) → map kept (map record_of ps) ≡ map modelled ps
map_same [] = refl
map_same (p ∷ ps) = ap₂ ◌∷◌ (listed_same p) (map_same ps)

pub matches : {u : Loader} {l : Model} → Stands u l → Matches u l
matches {u} {l} k =
    record {
      list = ap (map kept) k.state.payloads ∙ map_same l.payloads;
      version = k.state.version;
      text = k.text;
      arena = k.arena;
      undo = k.undo;
      ids = k.ids;
    }

pub started-stands : {a : Start} {v : Verdict} {u : Loader} → Started a v u → v ≡ Ok tt → Stands u (opened a) × Sound (opened a)
started-stands (by_start κs text text_base arena arena_base undo ids build_id cpus r arena' undo' ids' learnt) pass =
    start-stands _ _ learnt pass

pub every-sequence : EverySequence
every-sequence a u u' cs rs started run =
    let begun = started-stands started refl in
    let ran = run-agrees (opened a) run begun.0 begun.1 in
    let sound = sound-after cs begun.1 in
    record { answers = ran.0; matches = matches ran.1; jobs = jobs _ sound (λ j stands. steps-few sound stands) }
