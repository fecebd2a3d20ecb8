-- An upload keeps a sound model sound: what an accepted payload has, and a list with one more.
use Rattle.std.proofs.Common.{Some, None, Option, ℕ, Ok}
use Prim.Native.Nat.{ℕ, zero, suc, ◌+◌, ◌≤◌, ◌<◌}
use mathlib.Core.Path.{◌≡◌, refl, sym, ◌∙◌}
use mathlib.Core.Bool.{true, false, cond, not}
use mathlib.Core.List.{List, [], ◌∷◌, ◌++◌}
use native.Mathlib.Omega.{arith}
use lib.Dec.{eqb}
use lib.ListN.{length, take, replicate, length-replicate}
use lib.Seq.{length-take-le, get_or-take}
use Rattle.words.specs.Name.{is_found}
use Rattle.words.specs.Scan.{scan}
use Rattle.words.specs.Splice.{part, splice}
use Rattle.words.proofs.Scan.{length-filled}
use Rattle.words.proofs.Splice.{length_part, length-splice}
use Rattle.records.specs.Limits.{id_min, id_max, records_max}
use Rattle.records.specs.Name.{is_name}
use Rattle.records.specs.Payload.{no_edit}
use Rattle.records.specs.Verdict.{must}
use Rattle.records.specs.declared.payload.Edit.{Edit}
use Rattle.records.specs.declared.refusal.Place.TheVariants.{Nowhere}
use Rattle.records.proofs.Checks.{must-pass, then-pass}
use Rattle.symbols.specs.SymbolList.{valid}
use Rattle.elf.specs.Layout.{note_head_size}
use Rattle.header.specs.Header.{header_rules}
use Rattle.kinds.specs.declared.Kind as kind
use Rattle.object.specs.Sections.{sections, section_count, name_table_rules}
use Rattle.notes.specs.Notes.{id_length, note_ok, id_in}
use Rattle.notes.proofs.NoteLaws.{note-ok-length}
use Rattle.payload.specs.Reading.{read_rules, table_rules}
use Rattle.payload.proofs.ReadingLaws.{note-found, read-passes}
use Rattle.functions.specs.Functions.{edit_at, made_of, edits_of}
use Rattle.functions.proofs.FunctionLaws.{edits-made}
use Rattle.acceptance.specs.Stages.{
  Setting,
  setting,
  machine_at,
  reading_for,
  relocated_of,
  record_count,
  records_start,
  patching_of,
  payload_rules,
  build_rules,
}
use Rattle.prepare.proofs.BuildLaws.{build-passes, length-built}
use Rattle.memory.specs.Memory.{slot_count}
use Rattle.model.specs.Model.{Start, Loaded, Job, Model, host_for}
use Rattle.model.specs.Step.{with_list, with_slot, with_name, free_slot, slot_in, upload_rules, id_bytes, loaded_from, upload, is_applied}
use Rattle.invariant.specs.Sound.{All, FittingEdit, SoundPayload}
use Rattle.invariant.proofs.Lists.{never, by-test, all_append, all-by, all_among, found-any}
use Rattle.invariant.proofs.Slots.{is_in, holds, slot-holds, apart-behind}
use Rattle.invariant.proofs.Edits.{Kept, kept-behind}
use Rattle.invariant.proofs.Parts.{Stacked, JobsParts, Parts, decided}
use Rattle.invariant.proofs.Carried.{KeptJob, relisted}

-- ---- a free slot

module _ (l : Model) where
  free-from :
      (i k e : ℕ) → scan (λ slot rest. cond (is_found (with_slot l slot)) rest (Some slot)) None i k ≡ Some e →
      (e < i + k) × (is_found (with_slot l e) ≡ false)
  unfolding scan
  free-from i zero e h =
      let z : ◌≡◌ {A = ℕ} 0 1 = cc in
      absurd (omega arith)
  free-from i (suc k) e h =
      by-test (is_found (with_slot l i))
      (λ t. let f = free-from (suc i) k e (rw t at h) in (omega arith, f.1))
      (λ t. free-here (rw t at h) t)
    where
      free-here : Some i ≡ Some e → is_found (with_slot l i) ≡ false → (e < i + suc k) × (is_found (with_slot l e) ≡ false)
      free-here here t = let same : i ≡ e = cc in (omega arith, rw same at t)

  pub slot-free : (f : Option ℕ) → free_slot l ≡ f → is_found f ≡ true → (slot_in f < slot_count) × (is_found (with_slot l (slot_in f)) ≡ false)
  unfolding free_slot
  slot-free (Some e) h g =
      let f = free-from 0 slot_count e h in
      (omega arith, f.1)
  slot-free None h g = never g refl

-- ---- what an accepted payload has

-- the first bytes of a list that begins with them
length_front : (n : ℕ) (bytes new : List ℕ) → length new ≡ n → n ≤ length bytes → length (take n (splice bytes 0 new)) ≡ n
length_front n bytes new e h =
    let whole : length (splice bytes 0 new) ≡ length bytes = length-splice bytes 0 new (omega arith) in
    length-take-le n (splice bytes 0 new) (omega arith)

-- the lengths of an id
abbrev Sized : List ℕ → Type 0
Sized id = (id_min ≤ length id) × (length id ≤ id_max)

id-sized : (note : List ℕ) → note_ok note ≡ true → Sized (id_bytes (id_in note))
unfolding id_in
id-sized note ok =
    let sized = note-ok-length note ok in
    let n : ℕ = id_length note in
    let room : note_head_size + n ≤ length note = omega (arith, sized) in
    let zeros : List ℕ = replicate id_max 0 in
    let whole : n ≤ length zeros = rw (length-replicate {A = ℕ} id_max 0) sized.2 in
    rw (length_front n zeros (part note note_head_size n) (length_part note note_head_size n room) whole) (sized.1, sized.2)

module _ (a : Start) (slot : ℕ) (list file : List ℕ) (passes : payload_rules (setting (host_for a slot) list) file ≡ Ok tt) where
  abbrev t : Setting
  t = setting (host_for a slot) list

  reads : read_rules (machine_at t) file ≡ Ok tt
  reads = (then-pass (read_rules (machine_at t) file) (build_rules t file) passes).0

  builds : build_rules t file ≡ Ok tt
  builds = (then-pass (read_rules (machine_at t) file) (build_rules t file) passes).1

  table : table_rules file (sections file) (section_count file) ≡ Ok tt
  unfolding read_rules
  table = (then-pass (name_table_rules file) _ (then-pass (header_rules (machine_at t) file) _ reads).1).1

  ids-sized : Sized (id_bytes (reading_for file).id) × Sized (id_bytes (reading_for file).dependency)
  ids-sized = (
    id-sized _ (note-found file (sections file) (section_count file) kind.TheVariants.BuildId table refl),
    id-sized _ (note-found file (sections file) (section_count file) kind.TheVariants.Depends table refl),
  )

  abbrev all : List Edit
  all = edits_of (patching_of t file) (records_start file) (record_count file)

  -- the records are as many as the rules allow
  counted : (1 ≤ record_count file) × (record_count file ≤ records_max)
  counted =
      let r = read-passes file (machine_at t) reads in
      (omega (arith, r.records-least), omega (arith, r.records-most))

  length-edits : length (take (record_count file) all) ≡ record_count file
  length-edits =
      length-take-le (record_count file) all
      (omega (arith, counted.1, length-filled (λ r. made_of (edit_at (patching_of t file) (records_start file) r)) no_edit records_max (record_count file) counted.1))

  edits-fit : All (FittingEdit (length a.text)) (take (record_count file) all)
  edits-fit =
      all-by _ (take (record_count file) all) no_edit λ i h.
      let below : i < record_count file = omega (arith, length-edits) in
      let made = edits-made (patching_of t file) (records_start file) (record_count file) (build-passes t file builds).of-functions i below in
      rw (get_or-take (record_count file) all i no_edit below)
      record { inside = made.inside; bytes = made.sized; some = made.some; short = made.short }

  pub payload-sound :
      (name : List ℕ) → is_name name ≡ true → slot < slot_count →
      SoundPayload a record {
        name = name;
        slot = slot;
        status = 1;
        result = 0;
        id = id_bytes (reading_for file).id;
        dependency = id_bytes (reading_for file).dependency;
        image = (relocated_of t file).image;
        edits = take (record_count file) all;
      }
  payload-sound name named below =
      record {
        named = named;
        slotted = below;
        id_some = ids-sized.0.0;
        id_short = ids-sized.0.1;
        dependency_some = ids-sized.1.0;
        dependency_short = ids-sized.1.1;
        image = length-built t file reads builds;
        edits_some = rw length-edits counted.0;
        edits_few = rw length-edits counted.1;
        edits = edits-fit;
      }

-- ---- the call

module _ (l : Model) (s : Parts l) (q : Loaded) (good : SoundPayload l.start q) (status : q.status ≡ 1) (free : holds q.slot l.payloads ≡ false) where
  abbrev more : List Loaded
  more = l.payloads ++ (q ∷ [])

  stack-more : (xs : List ℕ) → Stacked l.payloads xs → All (Kept l.payloads more) xs
  stack-more [] h = tt
  stack-more (x ∷ xs) h = (kept-behind l.payloads (q ∷ []) x h.0, stack-more xs h.1)

  job-more : (o : Option Job) → JobsParts l.start l.payloads l.stack o → KeptJob l.payloads more o
  job-more None h = tt
  job-more (Some j) h = kept-behind l.payloads (q ∷ []) j.slot h.loaded

  -- the stack's slots are taken, so the free one is not among them
  not-stacked : is_applied l.stack q ≡ false
  not-stacked =
      by-test (is_applied l.stack q)
      (λ e. never (all_among _ q.slot l.stack s.stacked (sym (found-any (λ x. eqb x q.slot) 0 l.stack) ∙ e)) free)
      (λ e. e)

  added : Parts (with_list more l)
  added =
      relisted l s more (stack-more l.stack s.stacked) (job-more l.job s.job) _ (omega arith)
      (all_append _ l.payloads (q ∷ []) s.payloads (good, tt))
      (apart-behind l.payloads q s.apart (found-any (is_in q.slot) 0 l.payloads ∙ free))
      (all_append _ l.payloads (q ∷ []) s.statuses (status ∙ rw not-stacked, tt))

-- the rules have passed
accepted :
    (l : Model) (name list file : List ℕ) → Parts l → upload_rules l name list file ≡ Ok tt →
    Parts (with_list (l.payloads ++ (loaded_from l name list file ∷ [])) l)
unfolding upload_rules loaded_from
accepted l name list file s h =
    let one = then-pass (must (is_name name) 22 Nowhere) _ h in
    let two = then-pass (must (valid list) 22 Nowhere) _ one.1 in
    let three = then-pass (must (not (is_found (with_name l name))) 17 Nowhere) _ two.1 in
    let four = then-pass (must (is_found (free_slot l)) 12 Nowhere) _ three.1 in
    let slot = slot-free l (free_slot l) refl (must-pass _ 12 Nowhere four.0) in
    let good = payload-sound l.start (slot_in (free_slot l)) list file four.1 name (must-pass _ 22 Nowhere one.0) slot.0 in
    added l s _ good refl (sym (slot-holds l (slot_in (free_slot l))) ∙ slot.1)

pub upload-sound : (l : Model) (name list file : List ℕ) → Parts l → Parts (upload l name list file).model
unfolding upload
upload-sound l name list file s = decided _ _ (upload_rules l name list file) (λ r. s) (accepted l name list file s)
