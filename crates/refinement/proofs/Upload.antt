-- An upload gives the model's reply, and what it leaves stands for the model after it.
use Rattle.std.proofs.Common.{Some, None, Option, ℕ, Ok}
use Prim.Native.Nat.{ℕ, ◌+◌, ◌-◌, ◌%◌, ◌^◌, ◌≤◌, ◌<◌}
use mathlib.Core.Path.{◌≡◌, refl, sym, ap, ap₂, subst⁻¹, ◌∙◌}
use mathlib.Core.Bool.{true, not}
use mathlib.Core.List.{List, [], ◌∷◌, ◌++◌, map, map-append}
use native.Mathlib.Numerals.{add-one}
use native.Mathlib.Omega.{arith}
use borrow.Author.Tests.{eq-eqb}
use lib.ListN.{length, set, take, replicate, length-append, length-set}
use lib.Seq.{take_at, take-suc-set}
use Rattle.words.specs.Name.{is_found}
use Rattle.words.specs.Scan.{each, filled}
use Rattle.words.specs.Splice.{part, splice}
use Rattle.words.proofs.Scan.{length-each}
use Rattle.words.proofs.Splice.{length_part}
use Rattle.records.specs.Limits.{placed_max, id_max, records_max}
use Rattle.records.specs.Name.{is_name}
use Rattle.records.specs.Payload.{no_edit}
use Rattle.records.specs.Verdict.{must}
use Rattle.records.specs.declared.payload.BuildId.{BuildId}
use Rattle.records.specs.declared.payload.Edit.{Edit}
use Rattle.records.specs.declared.refusal.Place.TheVariants.{Nowhere}
use Rattle.records.proofs.Checks.{must-pass, then-pass}
use Rattle.symbols.specs.SymbolList.{valid}
use Rattle.elf.specs.Layout.{note_head_size}
use Rattle.header.specs.Header.{header_rules}
use Rattle.kinds.specs.declared.Kind.{Kind}
use Rattle.kinds.specs.declared.Kind.TheVariants.{Depends}
use Rattle.object.specs.Sections.{sections, section_count, name_table_rules}
use Rattle.notes.specs.Notes.{note_ok, id_length, id_in}
use Rattle.notes.proofs.NoteLaws.{note-ok-length}
use Rattle.payload.specs.Reading.{table_rules, read_rules}
use Rattle.payload.proofs.ReadingLaws.{note-found}
use Rattle.functions.specs.Functions.{made_of, edit_at}
use Rattle.acceptance.specs.Stages.{Setting, machine_at, reading_for, relocated_of, records_start, record_count, patching_of, payload_rules, build_rules}
use Rattle.prepare.specs.Prepare.{accepted_prepared}
use Rattle.memory.specs.Memory.{slot_count, slot_at, arena_size, id_at, ids_size}
use Rattle.upload_room.specs.Room as slots
use Rattle.upload_record.specs.Record as entry
use Rattle.upload.specs.Upload as upload
use Rattle.model.specs.Memory.{arena_of, ids_of, padded}
use Rattle.model.specs.Model.{Loaded, Model}
use Rattle.model.specs.Step as model
use Rattle.model.specs.Calls.{Upload, Says}
use Rattle.invariant.specs.Sound.{Absent, SoundPayload, Sound}
use Rattle.invariant.proofs.Upload.{payload-sound}
use Rattle.refinement.specs.Stands.{Loader, record_of, StateStands, Stands}
use Rattle.refinement.proofs.Agrees.{decide-agrees, then-assoc}
use Rattle.refinement.proofs.Counting.{room-left}
use Rattle.refinement.proofs.InRange.{in-range}
use Rattle.refinement.proofs.Lookups.{with-name, free-slot, free-found}
use Rattle.refinement.proofs.Stores.{image-fills, id-fills, images-fill, ids-fill, length-arena, length_ids, store-put}
use Rattle.refinement.proofs.Undo.{part-padded}

-- ---- an id that is read: its bytes, and zeros after them

pub record KeptId (id : BuildId) : Type 0 where
  pub size : length (model.id_bytes id) ≡ id.length
  pub bytes : padded id_max (model.id_bytes id) ≡ id.bytes

id-kept : (note : List ℕ) → note_ok note ≡ true → KeptId (id_in note)
unfolding id_in part
id-kept note right =
    let lengths = note-ok-length note right in
    let d : ℕ = id_length note in
    let inside : note_head_size + d ≤ length note = omega (arith, lengths.0) in
    let size : length (part note note_head_size d) ≡ d = length_part note note_head_size d inside in
    let short : length (part note note_head_size d) ≤ id_max = omega (arith, lengths.2) in
    let taken : take d (padded id_max (part note note_head_size d)) ≡ part note note_head_size d =
    rw size at (part-padded id_max (part note note_head_size d) short) in
    record { size = ap length taken ∙ size; bytes = ap (padded id_max) taken }

-- ---- edits that are read: those of the records, and no edit after them

module _ {A : Type 0} (f : ℕ → A) (z : A) (m n : ℕ) where
  taken-filled : take n (filled f z m n) ≡ each f 0 n
  unfolding filled
  taken-filled = take_at (each f 0 n) (replicate (m - n) z) n (length-each f 0 n)

  length_taken : length (take n (filled f z m n)) ≡ n
  length_taken = ap length taken-filled ∙ length-each f 0 n

  filled-again : take n (filled f z m n) ++ replicate (m - length (take n (filled f z m n))) z ≡ filled f z m n
  unfolding filled
  filled-again = rw (length_taken, taken-filled)

-- ---- what is read of a file that passes

module _ (t : Setting) (file : List ℕ) (passes : payload_rules t file ≡ Ok tt) where
  table-passes : table_rules file (sections file) (section_count file) ≡ Ok tt
  unfolding read_rules
  table-passes =
      let read = (then-pass (read_rules (machine_at t) file) (build_rules t file) passes).0 in
      let headed = then-pass (header_rules (machine_at t) file) _ read in
      (then-pass (name_table_rules file) _ headed.1).1

  id-read : KeptId (reading_for file).id
  id-read = id-kept _ (note-found file (sections file) (section_count file) Kind.BuildId table-passes refl)

  dependency-read : KeptId (reading_for file).dependency
  dependency-read = id-kept _ (note-found file (sections file) (section_count file) Depends table-passes refl)

-- ---- the payload that is put last

slot-in : (f : Option ℕ) → slots.slot_in f ≡ model.slot_in f
slot-in (Some slot) = refl
slot-in None = refl

module _ (l : Model) (name list file : List ℕ) where
  abbrev now : Setting
  now = model.setting_for l list

  abbrev new : Loaded
  new = model.loaded_from l name list file

  abbrev edit-at : ℕ → Edit
  edit-at r = made_of (edit_at (patching_of now file) (records_start file) r)

  -- the record that is kept of it
  record-new :
      payload_rules now file ≡ Ok tt →
      record_of new ≡ entry.record_for name (model.slot_in (model.free_slot l)) (accepted_prepared now file)
  unfolding record_of model.loaded_from
  record-new passes =
      rw (
        filled-again edit-at no_edit records_max (record_count file),
        length_taken edit-at no_edit records_max (record_count file),
        (id-read now file passes).size,
        (dependency-read now file passes).bytes,
        (dependency-read now file passes).size,
      )

-- ---- the call

-- the loader after it
abbrev pub after_upload : Loader → upload.Uploaded → Loader
after_upload u x =
    record { state = x.state; text = u.text; arena = x.after.arena; undo = u.undo; ids = x.after.ids; build_id = u.build_id }

abbrev pub UploadAgrees : Loader → upload.Uploaded → model.Told → Type 0
UploadAgrees u x y = (Says x.answer ≡ y.reply) × Stands (after_upload u x) y.model

module _ {u : Loader} {l : Model} (k : Stands u l) (sound : Sound l) (name list file : List ℕ) where
  abbrev lent : upload.Lent
  lent = upload.lent u.arena u.ids

  abbrev asked : upload.Request
  asked = upload.request name list file

  -- the rules

  sizes : slots.upload_sizes_ok u.state (length u.arena) (length u.ids) ≡ true
  unfolding slots.upload_sizes_ok
  sizes =
      rw (
        in-range k sound,
        eq-eqb (length u.arena) arena_size (ap length k.arena ∙ length-arena sound),
        eq-eqb (length u.ids) ids_size (ap length k.ids ∙ length_ids sound),
      )

  same-slot : slots.slot_for u.state ≡ model.slot_in (model.free_slot l)
  same-slot = rw (free-slot k.state sound) (slot-in (model.free_slot l))

  same-setting : upload.setting_for u.state list ≡ now l name list file
  same-setting = rw (same-slot, k.state.config)

  same-rules : upload.upload_rules u.state lent asked ≡ model.upload_rules l name list file
  unfolding upload.upload_rules slots.request_rules slots.room_rules model.upload_rules
  same-rules = rw (sizes, with-name k.state name, free-slot k.state sound, slot-in (model.free_slot l), k.state.config) (simp then-assoc)

  -- what an accepted upload leaves

  module _
      (named : is_name name ≡ true) (e : ℕ) (free : model.free_slot l ≡ Some e)
      (passes : payload_rules (now l name list file) file ≡ Ok tt) where
    room : u.state.count < slot_count
    unfolding model.with_slot
    room =
        let found = free-found l e free in
        omega (arith, room-left l.start l.payloads sound.payloads sound.apart e found.0 found.1, k.state.count)

    put_last :
        (p : Loaded) → take (u.state.count + 1) (set u.state.payloads u.state.count (record_of p)) ≡ map record_of (l.payloads ++ (p ∷ []))
    put_last p =
        let inside : u.state.count < length u.state.payloads = omega (arith, room, k.state.payloads_whole) in
        rw (add-one, take-suc-set u.state.payloads u.state.count (record_of p) inside, k.state.payloads)
        (sym (map-append record_of l.payloads (p ∷ [])))

    state-after :
        (p : Loaded) → StateStands (entry.with_uploaded u.state (record_of p)) (model.with_list (l.payloads ++ (p ∷ [])) l)
    state-after p =
        record {
          config = k.state.config;
          version = ap (λ (n : ℕ). (n + 1) % 2 ^ 32) k.state.version;
          count = simp length-append (omega (arith, k.state.count));
          payloads = put_last p;
          depth = k.state.depth;
          stack = k.state.stack;
          job = k.state.job;
          payloads_whole = simp length-set k.state.payloads_whole;
          stack_whole = k.state.stack_whole;
          held_whole = k.state.held_whole;
        }

    abbrev after : Model
    after = model.with_list (l.payloads ++ (new l name list file ∷ [])) l

    slot-free : (model.slot_in (model.free_slot l) < slot_count) × Absent (model.slot_in (model.free_slot l)) l.payloads
    unfolding model.with_slot
    slot-free = rw free (free-found l e free)

    new-sound : SoundPayload l.start (new l name list file)
    unfolding model.loaded_from
    new-sound = payload-sound l.start (model.slot_in (model.free_slot l)) list file passes name named slot-free.0

    arena-after : splice u.arena (slot_at (model.slot_in (model.free_slot l))) (relocated_of (now l name list file) file).image ≡ arena_of after
    unfolding model.loaded_from
    arena-after =
        rw k.arena
        (sym
        (store-put placed_max (λ p. p.image) l.payloads (new l name list file) (images-fill l.start l.payloads sound.payloads)
        (image-fills l.start (new l name list file) new-sound)
        slot-free.1))

    ids-after : splice u.ids (id_at (model.slot_in (model.free_slot l))) (reading_for file).id.bytes ≡ ids_of after
    unfolding model.loaded_from
    ids-after =
        ap₂ (λ (s b : List ℕ). splice s (id_at (model.slot_in (model.free_slot l))) b) k.ids
        (sym (id-read (now l name list file) file passes).bytes)
        ∙ sym
        (store-put id_max (λ p. padded id_max p.id) l.payloads (new l name list file) (ids-fill l.start l.payloads sound.payloads)
        (id-fills l.start (new l name list file) new-sound)
        slot-free.1)

    abbrev done : ℕ → Setting → upload.Uploaded
    done slot t =
        record {
          answer = Ok tt;
          state = entry.with_uploaded u.state (entry.record_for name slot (accepted_prepared t file));
          after =
              upload.lent (splice u.arena (slot_at slot) (relocated_of t file).image) (splice u.ids (id_at slot) (reading_for file).id.bytes);
        }

    accepted-is : upload.accepted_upload u.state lent asked ≡ done (model.slot_in (model.free_slot l)) (now l name list file)
    unfolding upload.accepted_upload
    accepted-is = ap₂ done same-slot same-setting

    accepted-agrees : UploadAgrees u (upload.accepted_upload u.state lent asked) (model.told after (Says (Ok tt)))
    accepted-agrees =
        subst⁻¹ (λ (x : upload.Uploaded). UploadAgrees u x (model.told after (Says (Ok tt)))) accepted-is (
          refl,
          record {
            accepted = k.accepted;
            state = rw (← record-new l name list file passes) (state-after (new l name list file));
            text = k.text;
            arena = arena-after;
            undo = k.undo;
            ids = ids-after;
            build_id = k.build_id;
          },
        )

  -- what the rules tell of an upload that is accepted
  slot-found : (f : Option ℕ) → model.free_slot l ≡ f → is_found f ≡ true → (e : ℕ) × (model.free_slot l ≡ Some e)
  slot-found (Some e) h found = (e, h)
  slot-found None h found =
      let never : ◌≡◌ {A = ℕ} 0 1 = cc in
      absurd (omega arith)

  pub upload-agrees :
      UploadAgrees u (upload.upload_of u.state (upload.lent u.arena u.ids) (upload.request name list file))
      (model.step l (Upload name list file))
  unfolding upload.upload_of model.step model.upload model.upload_rules
  upload-agrees =
      rw same-rules
      (decide-agrees (UploadAgrees u) (model.upload_rules l name list file) (λ r. (refl, k)) λ passes.
      let named = then-pass (must (is_name name) 22 Nowhere) _ passes in
      let listed = then-pass (must (valid list) 22 Nowhere) _ named.1 in
      let fresh = then-pass (must (not (is_found (model.with_name l name))) 17 Nowhere) _ listed.1 in
      let free = then-pass (must (is_found (model.free_slot l)) 12 Nowhere) _ fresh.1 in
      let slot = slot-found (model.free_slot l) refl (must-pass _ 12 Nowhere free.0) in
      accepted-agrees (must-pass _ 22 Nowhere named.0) slot.0 slot.1 free.1)
