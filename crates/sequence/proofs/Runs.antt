-- No claim about runs is empty: a start-up whose sizes and numbers are right is accepted, and after it every list of calls has a run.
use Rattle.std.proofs.Common.{Ok}
use Prim.Native.Nat.{ℕ}
use mathlib.Core.Path.{refl}
use mathlib.Core.List.{List, [], ◌∷◌}
use lib.ListN.{replicate}
use Rattle.memory.specs.Memory.{arena_size, undo_size, ids_size}
use Rattle.upload.specs.Upload as upload
use Rattle.upload.proofs.Accepting.{uploads}
use Rattle.queries.specs.Get.{get_of}
use Rattle.listing.specs.List as list
use Rattle.queries.specs.TopId.{top_id_of}
use Rattle.actions.specs.Actions as actions
use Rattle.rendezvous.specs.Rendezvous.{report_of, tick_of}
use Rattle.work.specs.Work as work
use Rattle.model.specs.Calls.{Call, Upload, Get, ListFrom, Act, Report, Tick, Work, TopId, Reply}
use Rattle.model.specs.Model.{Model}
use Rattle.invariant.specs.Sound.{Sound}
use Rattle.invariant.proofs.Step.{sound-step}
use Rattle.refinement.specs.Stands.{Loader, Stands}
use Rattle.refinement.proofs.Queries.{top-id-handed}
use Rattle.sequence.specs.Claim.{EveryCallRuns, StartsAccepted}
use Rattle.sequence.specs.Run.{Bytes, MutBytes, by_start, Turn, by_upload, by_get, by_list, by_act, by_report, by_tick, by_work, by_top_id, Run, end, then}
use Rattle.sequence.proofs.Sequence.{turn-agrees, started-stands}
use Rattle.sequence.proofs.Start.{starts}

-- a slice that holds these bytes
abbrev lent : List ℕ → Bytes
lent l = record { ref_ptr = (0, 0); now = l }

-- and one that may be written
abbrev lent-mut : List ℕ → MutBytes
lent-mut l = record { ref_ptr = (0, 0); ghost_name = 0; now = l }

-- ---- every call has a turn

abbrev HasTurn : Loader → Call → Type 0
HasTurn u c = (a : Reply) × (u' : Loader) × Turn u c a u'

has-turn : {u : Loader} {l : Model} → Stands u l → Sound l → (c : Call) → HasTurn u c
has-turn {u} k sound (Upload name symbols file) =
    let x : upload.Uploaded = upload.upload_of u.state (upload.lent u.arena u.ids) (upload.request name symbols file) in (
      _,
      _,
      by_upload
          ([], ([], ([], ([], ([], tt)))))
          u.state
          u.text
          (lent-mut u.arena)
          u.undo
          (lent-mut u.ids)
          u.build_id
          (lent name)
          (lent symbols)
          (lent file)
          (record { verdict = x.answer; state = x.state })
          (lent-mut x.after.arena)
          (lent-mut x.after.ids)
          (uploads _ _ _ refl),
    )
has-turn {u} k sound (Get name) = (_, _, by_get ([], tt) u (lent name) (get_of u.state name) refl)
has-turn {u} k sound (ListFrom idx nr b) =
    let x : list.Listing = list.list_of u.state idx nr (list.buffers b.statuses b.names b.lengths) in (
      _,
      _,
      by_list
          ([], ([], ([], tt)))
          u
          idx
          nr
          (lent-mut b.statuses)
          (lent-mut b.names)
          (lent-mut b.lengths)
          x.answer
          (lent-mut x.after.statuses)
          (lent-mut x.after.names)
          (lent-mut x.after.lengths)
          refl,
    )
has-turn {u} k sound (Act name command time) =
    let x : actions.Acted =
    actions.action_of u.state u.build_id (actions.lent u.arena u.undo u.ids) (actions.request name command time) in (
      _,
      _,
      by_act
          ([], ([], ([], ([], ([], tt)))))
          u.state
          u.text
          (lent-mut u.arena)
          (lent-mut u.undo)
          (lent-mut u.ids)
          (lent u.build_id)
          (lent name)
          command
          time
          (record { verdict = x.answer; state = x.state })
          (lent-mut x.after.arena)
          (lent-mut x.after.undo)
          (lent-mut x.after.ids)
          refl,
    )
has-turn {u} k sound (Report cpu) =
    (_, _, by_report tt u.state u.text u.arena u.undo u.ids u.build_id cpu (report_of u.state cpu) refl)
has-turn {u} k sound Tick =
    (_, _, by_tick tt u.state u.text u.arena u.undo u.ids u.build_id (tick_of u.state) refl)
has-turn {u} k sound Work =
    let x : work.Worked = work.work_of u.state (work.lent u.text u.undo) in (
      _,
      _,
      by_work
          ([], ([], tt))
          u.state
          (lent-mut u.text)
          u.arena
          (lent-mut u.undo)
          u.ids
          u.build_id
          (record { verdict = x.answer; state = x.state })
          (lent-mut x.after.text)
          (lent-mut x.after.undo)
          refl,
    )
has-turn {u} k sound TopId = (
  _,
  _,
  by_top_id
      ([], tt)
      u.state
      u.text
      u.arena
      u.undo
      (lent u.ids)
      (lent u.build_id)
      (lent (top_id_of u.state u.build_id u.ids))
      (top-id-handed k sound),
)

-- ---- and every list of calls a run

has-run :
    {u : Loader} {l : Model} → Stands u l → Sound l → (cs : List Call) → (rs : List Reply) × (u' : Loader) × Run u cs rs u'
has-run {u} k sound [] = ([], u, end)
has-run {u} {l} k sound (c ∷ cs) =
    let t = has-turn k sound c in
    let next = (turn-agrees l t.2 k sound).1 in
    let r = has-run {u = t.1} next (sound-step c sound) cs in
    (t.0 ∷ r.0, r.1, then t.2 r.2)

pub every-call-runs : EveryCallRuns
every-call-runs a u cs started =
    let begun = started-stands started refl in
    has-run begun.0 begun.1 cs

-- ---- start-ups are accepted

pub starts-accepted : StartsAccepted
starts-accepted a right = (
  _,
  by_start
      ([], ([], ([], ([], ([], tt)))))
      (lent a.text)
      a.text_base
      (lent-mut (replicate arena_size 0))
      a.arena_base
      (lent-mut (replicate undo_size 0))
      (lent-mut (replicate ids_size 0))
      (lent a.build_id)
      a.cpus
      (record { verdict = Ok tt; state = _ })
      (lent-mut (replicate arena_size 0))
      (lent-mut (replicate undo_size 0))
      (lent-mut (replicate ids_size 0))
      (starts a right),
)
