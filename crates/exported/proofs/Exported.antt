-- The claim about every sequence of exported calls: each makes the turn that the call on the state makes, and so keeps to the model.
use Prim.Native.Nat.{ℕ}
use mathlib.Core.Path.{◌≡◌, refl, sym, ap, ap₂, subst, subst⁻¹, ◌∙◌}
use mathlib.Core.Bool.{true, cond}
use mathlib.Core.List.{List, [], ◌∷◌, map}
use lib.Dec.{eqb}
use lib.ListN.{length}
use Rattle.state.specs.declared.state.State.{State}
use Rattle.state_bytes.specs.Stored.{state_in, is_state}
use Rattle.upload.specs.Upload as upload
use Rattle.upload.proofs.Accepting.{uploads}
use Rattle.actions.specs.Actions as actions
use Rattle.queries.specs.Get.{get_of}
use Rattle.queries.specs.TopId as top
use Rattle.queries.specs.declared.top_id.IdPlace.{IdPlace}
use Rattle.queries.proofs.TopIdLaws.{id-there}
use Rattle.listing.specs.List as list
use Rattle.rendezvous.specs.Rendezvous.{report_of, tick_of}
use Rattle.work.specs.Work as work
use Rattle.calls.specs.Changes.{report_told, tick_told, work_told}
use Rattle.upload_call.specs.Changes.{upload_told}
use Rattle.action_calls.specs.Changes.{memory, start_lent, start_told, action_told}
use Rattle.questions.specs.Questions.{get_size, list_size, top_size, place_bytes}
use Rattle.calls.specs.Told.{told, invalid}
use Rattle.model.specs.Calls as model
use Rattle.model.specs.Model.{Start, Model, opened}
use Rattle.model.specs.Step.{step, after, top_id}
use Rattle.invariant.specs.Sound.{Sound}
use Rattle.invariant.proofs.Facts.{steps-few}
use Rattle.invariant.proofs.Jobs.{jobs}
use Rattle.invariant.proofs.Step.{sound-step, sound-after}
use Rattle.refinement.specs.Stands.{Stands}
use Rattle.refinement.proofs.Queries.{id-sizes, top-over}
use Rattle.sequence.specs.Run as sequence
use Rattle.sequence.proofs.Sequence.{turn-agrees, matches}
use Rattle.exported.specs.Calls.{Call, Reply, Returns, Fills, FillsList, plain, number_for, out_for, buffers_for, top_place_of, reply_for, replies_for}
use Rattle.exported.specs.Claim.{loader_of, EveryExportedSequence}
use Rattle.exported.specs.Run.{Host, MutBytes, Started, by_start, Turn, by_upload, by_get, by_list, by_act, by_report, by_tick, by_work, by_top_id, Run, end, then}
use Rattle.exported.proofs.Begun.{begins}
use Rattle.exported.proofs.Replies.{told-apart, plain_buffers, get-fills, list-fills, top-fills, place-agrees}

-- a slice that holds these bytes, and may be written
abbrev lent : List ℕ → MutBytes
lent l = record { ref_ptr = (0, 0); ghost_name = 0; now = l }

-- what a call leaves: the records are a state's, and stand for the model after it
pub record Follows (h : Host) (l : Model) : Type 0 where
  pub records : is_state h.records ≡ true
  pub stands : Stands (loader_of h) l

abbrev Agrees : Model → Call → Reply → Host → Type 0
Agrees l c a h = (a ≡ reply_for l c) × Follows h (step l (plain c)).model

-- the same state and memory, part by part
moved :
    {s s' : State} {text text' arena arena' undo undo' ids ids' : List ℕ} (build_id : List ℕ) {l : Model} → s' ≡ s → text' ≡ text → arena' ≡ arena →
    undo' ≡ undo → ids' ≡ ids → Stands (record { state = s; text = text; arena = arena; undo = undo; ids = ids; build_id = build_id }) l →
    Stands (record { state = s'; text = text'; arena = arena'; undo = undo'; ids = ids'; build_id = build_id }) l
moved build_id a b c d e k = rw (a, b, c, d, e) k

-- the model stays as it is where the top build-id is asked for
top-id-stays : (l : Model) → (step l model.TopId).model ≡ l
unfolding step
top-id-stays l = refl

-- ---- one call

turn-follows :
    {h h' : Host} {c : Call} {a : Reply} (l : Model) → Turn h c a h' → Follows h l → Sound l → Agrees l c a h'
unfolding reply_for upload_told action_told report_told tick_told work_told
turn-follows l (by_upload κs records text arena undo ids build_id name symbols file r records' arena' ids' learnt) k sound =
    let b = records.now in
    let given = upload.lent arena.now ids.now in
    let x = upload.upload_of (state_in b) given (upload.request name.now symbols.now file.now) in
    let agreed =
    turn-agrees l
    (sequence.by_upload
    ([], ([], ([], ([], ([], tt)))))
    (state_in b)
    text
    arena
    undo
    ids
    build_id
    name
    symbols
    file
    (record { verdict = x.answer; state = x.state })
    (lent x.after.arena)
    (lent x.after.ids)
    (uploads _ _ _ refl))
    k.stands
    sound in
    let held = learnt.kept k.records in
    let answered = told-apart b given x.answer x.state x.after k.records learnt.equal in (
      ap Returns (answered.0 ∙ ap number_for agreed.0),
      record {
        records = held.whole;
        stands = moved build_id
            held.read
            refl
            (ap (λ (m : upload.Lent). m.arena) answered.1)
            refl
            (ap (λ (m : upload.Lent). m.ids) answered.1)
            agreed.1;
      },
    )
turn-follows l (by_get κs records text arena undo ids build_id name out r out' learnt) k sound =
    let b = records.now in
    let g = get_of (state_in b) name.now in
    let agreed = turn-agrees l (sequence.by_get ([], tt) _ name g refl) k.stands sound in (
      get-fills b k.records name.now out.now learnt
          ∙ ap
          (λ (reply : model.Reply).
          cond (eqb (length out.now) get_size) (Fills (number_for reply) (out_for out.now reply)) (Fills invalid out.now))
          agreed.0,
      record { records = k.records; stands = agreed.1 },
    )
turn-follows l (by_list κs records text arena undo ids build_id idx nr statuses names lengths out r statuses' names' lengths' out' learnt) k sound =
    let b = records.now in
    let given = list.buffers statuses.now names.now lengths.now in
    let x = list.list_of (state_in b) idx nr given in
    let agreed =
    turn-agrees l
    (sequence.by_list
    ([], ([], ([], tt)))
    _
    idx
    nr
    statuses
    names
    lengths
    x.answer
    (lent x.after.statuses)
    (lent x.after.names)
    (lent x.after.lengths)
    refl)
    k.stands
    sound in (
      list-fills b k.records idx nr given out.now learnt
          ∙ ap
          (λ (reply : model.Reply).
          cond (eqb (length out.now) list_size)
          (FillsList (number_for reply) (out_for out.now reply) (buffers_for (plain_buffers given) reply))
          (FillsList invalid out.now (plain_buffers given)))
          agreed.0,
      record { records = k.records; stands = agreed.1 },
    )
turn-follows l (by_act κs records text arena undo ids build_id name command time r records' arena' undo' ids' learnt) k sound =
    let b = records.now in
    let given = actions.lent arena.now undo.now ids.now in
    let x = actions.action_of (state_in b) build_id.now given (actions.request name.now command time) in
    let agreed =
    turn-agrees l
    (sequence.by_act
    ([], ([], ([], ([], ([], tt)))))
    (state_in b)
    text
    arena
    undo
    ids
    build_id
    name
    command
    time
    (record { verdict = x.answer; state = x.state })
    (lent x.after.arena)
    (lent x.after.undo)
    (lent x.after.ids)
    refl)
    k.stands
    sound in
    let held = learnt.1 k.records in
    let answered = told-apart b given x.answer x.state x.after k.records learnt.0 in (
      ap Returns (answered.0 ∙ ap number_for agreed.0),
      record {
        records = held.whole;
        stands = moved build_id.now
            held.read
            refl
            (ap (λ (m : actions.Lent). m.arena) answered.1)
            (ap (λ (m : actions.Lent). m.undo) answered.1)
            (ap (λ (m : actions.Lent). m.ids) answered.1)
            agreed.1;
      },
    )
turn-follows l (by_report κs records text arena undo ids build_id cpu r records' learnt) k sound =
    let b = records.now in
    let x = report_of (state_in b) cpu in
    let agreed = turn-agrees l (sequence.by_report tt (state_in b) text arena undo ids build_id cpu x refl) k.stands sound in
    let held = learnt.1 k.records in
    let answered = told-apart b tt x.verdict x.state tt k.records learnt.0 in (
      ap Returns (answered.0 ∙ ap number_for agreed.0),
      record {
        records = held.whole;
        stands = moved build_id held.read refl refl refl refl agreed.1;
      },
    )
turn-follows l (by_tick κs records text arena undo ids build_id r records' learnt) k sound =
    let b = records.now in
    let x = tick_of (state_in b) in
    let agreed = turn-agrees l (sequence.by_tick tt (state_in b) text arena undo ids build_id x refl) k.stands sound in
    let held = learnt.1 k.records in
    let answered = told-apart b tt x.verdict x.state tt k.records learnt.0 in (
      ap Returns (answered.0 ∙ ap number_for agreed.0),
      record {
        records = held.whole;
        stands = moved build_id held.read refl refl refl refl agreed.1;
      },
    )
turn-follows l (by_work κs records text arena undo ids build_id r records' text' undo' learnt) k sound =
    let b = records.now in
    let given = work.lent text.now undo.now in
    let x = work.work_of (state_in b) given in
    let agreed =
    turn-agrees l
    (sequence.by_work
    ([], ([], tt))
    (state_in b)
    text
    arena
    undo
    ids
    build_id
    (record { verdict = x.answer; state = x.state })
    (lent x.after.text)
    (lent x.after.undo)
    refl)
    k.stands
    sound in
    let held = learnt.1 k.records in
    let answered = told-apart b given x.answer x.state x.after k.records learnt.0 in (
      ap Returns (answered.0 ∙ ap number_for agreed.0),
      record {
        records = held.whole;
        stands = moved build_id
            held.read
            (ap (λ (m : work.Lent). m.text) answered.1)
            refl
            (ap (λ (m : work.Lent). m.undo) answered.1)
            refl
            agreed.1;
      },
    )
turn-follows l (by_top_id κs records text arena undo ids build_id out r out' learnt) k sound = (
  top-fills records.now k.records build_id.now ids.now out.now (id-sizes k.stands sound) learnt
      ∙ ap (λ (p : IdPlace). cond (eqb (length out.now) top_size) (Fills 0 (place_bytes p)) (Fills invalid out.now)) (place-agrees k.stands),
  subst⁻¹ (Follows _) (top-id-stays l) k,
)

-- ---- a run

run-follows :
    {h h' : Host} {cs : List Call} {rs : List Reply} (l : Model) → Run h cs rs h' → Follows h l → Sound l →
    (rs ≡ replies_for l cs) × Follows h' (after l (map plain cs))
unfolding replies_for after
run-follows l end k sound = (refl, k)
run-follows l (then {c = c} turn rest) k sound =
    let one = turn-follows l turn k sound in
    let others = run-follows (step l (plain c)).model rest one.1 (sound-step (plain c) sound) in
    (ap₂ ◌∷◌ one.0 others.0, others.1)

-- ---- the claim

-- the bytes of the top build-id stand at its place
top-there : {h : Host} {l : Model} → Follows h l → Sound l → top.id_there (top_place_of l) h.build_id h.ids ≡ top_id l
unfolding top_id
top-there {h} {l} k sound =
    ap (λ (p : IdPlace). top.id_there p h.build_id h.ids) (sym (place-agrees k.stands))
    ∙ id-there (state_in h.records) h.build_id h.ids (id-sizes k.stands sound)
    ∙ top-over k.stands sound l.stack refl sound.stacked

begun-follows : {a : Start} {r : ℕ} {h : Host} → Started a r h → r ≡ 0 → Follows h (opened a) × Sound (opened a)
begun-follows (by_start κs records text text_base arena arena_base undo ids build_id cpus r records' arena' undo' ids' learnt) zero =
    let l =
    start_lent text.now text_base arena.now arena_base undo.now ids.now build_id.now cpus in
    let begun =
    begins l records'.now arena'.now undo'.now ids'.now records.now
    (subst (λ (n : ℕ). told n records'.now (memory arena'.now undo'.now ids'.now) ≡ start_told records.now l) zero learnt.0)
    (λ z. learnt.1 zero) in
    (record { records = begun.records; stands = begun.stands }, begun.sound)

pub every-sequence : EveryExportedSequence
every-sequence a h h' cs rs started run =
    let begun = begun-follows started refl in
    let ran = run-follows (opened a) run begun.0 begun.1 in
    let sound = sound-after (map plain cs) begun.1 in
    record {
      answers = ran.0;
      records = ran.1.records;
      matches = matches ran.1.stands;
      top = top-there ran.1 sound;
      jobs = jobs _ sound (λ j stands. steps-few sound stands);
    }
