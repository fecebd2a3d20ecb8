-- An upload by what its stages answered.
use Rattle.records.specs.Refusal.{Verdict}
use Rattle.std.proofs.Common.{Some, None, Option, Result, Ok, Err}
use Prim.Native.Nat.{ℕ, ◌≤◌, ◌<◌}
use mathlib.Core.Path.{◌≡◌, refl, sym, ap, ◌∙◌}
use mathlib.Core.Bool.{true, false, not}
use mathlib.Core.List.{List}
use native.Mathlib.Omega.{arith}
use borrow.Author.Tests.{leb-true, not-true}
use lib.Dec.{leb}
use lib.ListN.{length}
use Rattle.words.specs.Name.{is_found}
use Rattle.words.specs.Splice.{splice}
use Rattle.words.proofs.Tests.{three}
use Rattle.records.specs.Limits.{name_min, name_max, records_max}
use Rattle.records.specs.Name.{is_name}
use Rattle.records.specs.Verdict.{must, ◌then◌, decide, verdict_of}
use Rattle.records.specs.declared.refusal.Place.TheVariants.{Nowhere}
use Rattle.records.specs.declared.refusal.Refusal.{Refusal}
use Rattle.records.proofs.Checks.{must-pass, then-pass, decided-ok, decided-err}
use Rattle.symbols.specs.SymbolList.{valid}
use Rattle.payload.specs.Reading.{read_rules}
use Rattle.payload.proofs.ReadingLaws.{read-passes}
use Rattle.memory.specs.Config.{config_ok, host_for}
use Rattle.memory.specs.Memory.{slot_count, slot_at, arena_size, id_at, ids_size}
use Rattle.memory.specs.declared.config.Config.{Config}
use Rattle.state.specs.Find.{with_name, free_slot}
use Rattle.state.specs.State.{called}
use Rattle.state.specs.declared.state.State.{State}
use Rattle.state.proofs.Laws.{free-slot}
use Rattle.state.proofs.Whole.{Whole}
use Rattle.ranges.proofs.Laws.{in-range}
use Rattle.acceptance.specs.Stages.{Setting, setting, machine_at, relocated_of, record_count, payload_rules}
use Rattle.prepare.specs.Prepare.{Outcome, outcome, accepted_prepared}
use Rattle.prepare.specs.declared.prepare.Prepared.{Prepared}
use Rattle.upload_room.specs.Room.{upload_sizes_ok, slot_in, slot_for, room_rules, request_rules, room_by}
use Rattle.upload_room.proofs.Laws.{sizes-told}
use Rattle.upload_record.specs.Record.{record_for, with_uploaded}
use Rattle.upload.specs.Upload.{Lent, lent, Request, setting_for, upload_rules, prepared_in, uploaded, accepted_upload, refused_upload, upload_of}
use Rattle.upload.proofs.SlotLaws.{outcome_in, payload-told, outcome-is}

-- ---- up to the slot

found-is : (f : Option ℕ) → is_found f ≡ true → f ≡ Some (slot_in f)
found-is (Some i) h = refl
found-is None h = cc

module _ (s : State) (arena ids : ℕ) (name list : List ℕ) where
  -- what the rules say
  pub record HasRoom : Type 0 where
    pub sizes : upload_sizes_ok s arena ids ≡ true
    pub named : is_name name ≡ true
    pub listed : valid list ≡ true
    pub new : is_found (with_name s name) ≡ false
    pub free : is_found (free_slot s) ≡ true

  pub has_room : request_rules s arena ids name list ≡ Ok tt → HasRoom
  unfolding request_rules room_rules
  has_room pass =
      let sized = then-pass (must (upload_sizes_ok s arena ids) 22 Nowhere) _ pass in
      let first = then-pass (must (is_name name) 22 Nowhere) _ sized.1 in
      let second = then-pass (must (valid list) 22 Nowhere) _ first.1 in
      let third = then-pass (must (not (is_found (with_name s name))) 17 Nowhere) _ second.1 in
      record {
        sizes = must-pass _ _ _ sized.0;
        named = must-pass _ _ _ first.0;
        listed = must-pass _ _ _ second.0;
        new = not-true _ (must-pass _ _ _ third.0);
        free = must-pass _ _ _ third.1;
      }

  module _ (room : HasRoom) where
    -- there is a free slot, and the list has room
    room-inside : (s.count < slot_count) × (slot_for s < slot_count)
    room-inside =
        let free = free-slot s (slot_for s) (found-is (free_slot s) room.free) in
        (free.0, free.1.high)

    name-short : length name ≤ name_max
    unfolding is_name
    name-short = leb-true _ _ (three (leb name_min (length name)) (leb (length name) name_max) _ room.named).1

-- ---- an accepted payload

-- it has `records_max` function records at most
few-records : (t : Setting) (file : List ℕ) → payload_rules t file ≡ Ok tt → record_count file ≤ records_max
few-records t file pass =
    omega (arith, (read-passes file (machine_at t) (then-pass (read_rules (machine_at t) file) _ pass).0).records-most)

-- slot and outcome are those of the definition
module _ (s : State) (l : Lent) (q : Request) {slot : ℕ} {x : Prepared} {arena ids : List ℕ} {next : State} where
  accepted-is :
      slot ≡ slot_for s → x ≡ accepted_prepared (setting_for s q.list) q.file →
      arena ≡ splice l.arena (slot_at (slot_for s)) (relocated_of (setting_for s q.list) q.file).image →
      next ≡ with_uploaded s (record_for q.name slot x) → ids ≡ splice l.ids (id_at slot) x.id.bytes →
      uploaded (called (Ok tt) next) (lent arena ids) ≡ accepted_upload s l q
  unfolding accepted_upload
  accepted-is slotted answer image state stored = rw (state, stored, slotted, answer, image)

-- ---- the call, by what its stages answered

module _ (s : State) (l : Lent) (q : Request) where
  abbrev requested : Verdict
  requested = request_rules s (length l.arena) (length l.ids) q.name q.list

  abbrev aim : Setting
  aim = setting_for s q.list

  -- the first stage that refuses decides
  upload-by :
      {room payload : Verdict} → requested ≡ room → payload_rules aim q.file ≡ payload →
      decide (refused_upload s l) (accepted_upload s l q) (room then payload) ≡ upload_of s l q
  unfolding upload_of upload_rules
  upload-by a b = rw (a, b)

  -- `place` is what was found for the payload
  module _ {place : Result ℕ Refusal} (found : place ≡ room_by s requested) where
    -- a refusal, with all as it was
    pub refused-request : {r : Refusal} → place ≡ Err r → refused_upload s l r ≡ upload_of s l q
    refused-request told = upload-by (decided-err _ requested (sym found ∙ told)) refl

    module _ {slot : ℕ} (given : place ≡ Ok slot) where
      passed : requested ≡ Ok tt
      passed = (decided-ok _ requested (sym found ∙ given)).0

      room : HasRoom s (length l.arena) (length l.ids) q.name q.list
      room = has_room _ _ _ _ _ passed

      slotted : slot ≡ slot_for s
      slotted = (decided-ok _ requested (sym found ∙ given)).1

      slot-inside : slot < slot_count
      slot-inside = omega (arith, slotted, (room-inside _ _ _ _ _ room).1)

      -- what the preparation asks for
      pub ready : {c : Config} → Whole s → c ≡ s.config → (config_ok c ≡ true) × (slot < slot_count) × (length l.arena ≡ arena_size)
      ready whole same =
          let right = sizes-told _ _ _ room.sizes in
          (rw same (in-range whole right.0).config, slot-inside, right.1)

      -- `p` is what was prepared, and `arena` what it left of the arena
      module _
          {c : Config} (same : c ≡ s.config) {p : Result Prepared Refusal} {arena : List ℕ}
          (done : outcome p arena ≡ prepared_in (setting (host_for c slot) q.list) l.arena slot q.file) where
        prepared : outcome p arena ≡ prepared_in aim l.arena (slot_for s) q.file
        prepared = done ∙ rw (same, slotted)

        -- a refusal, with all as it was
        pub refused-payload : {r : Refusal} → p ≡ Err r → refused_upload s (lent arena l.ids) r ≡ upload_of s l q
        refused-payload {r} told =
            let kept = ap (λ (o : Outcome). o.image) (outcome-is _ _ _ _ prepared {v = Err r} (ap verdict_of told)) in
            rw kept (upload-by passed (payload-told _ _ _ _ prepared (ap verdict_of told)))

        module _ {x : Prepared} (fits : p ≡ Ok x) where
          passes : payload_rules aim q.file ≡ Ok tt
          passes = payload-told _ _ _ _ prepared (ap verdict_of fits)

          whole-outcome : outcome p arena ≡ outcome_in aim l.arena (slot_for s) q.file (Ok tt)
          whole-outcome = outcome-is _ _ _ _ prepared (ap verdict_of fits)

          made : x ≡ accepted_prepared aim q.file
          made =
              let same : ◌≡◌ {A = Result Prepared Refusal} (Ok x) (Ok (accepted_prepared aim q.file)) =
              sym fits ∙ ap (λ (o : Outcome). o.answer) whole-outcome in
              cc

          -- what entering it asks for
          pub enterable :
              ((s.count < slot_count) × (slot < slot_count) × (length l.ids ≡ ids_size))
              × ((length q.name ≤ name_max) × (x.edit_count ≤ records_max))
          enterable = (
            ((room-inside _ _ _ _ _ room).0, slot-inside, (sizes-told _ _ _ room.sizes).2),
            (
              name-short _ _ _ _ _ room,
              rw made (few-records aim q.file passes),
            ),
          )

          -- entered, it is uploaded
          pub accepted :
              {next : State} {ids : List ℕ} → next ≡ with_uploaded s (record_for q.name slot x) →
              ids ≡ splice l.ids (id_at slot) x.id.bytes → uploaded (called (Ok tt) next) (lent arena ids) ≡ upload_of s l q
          accepted state stored =
              accepted-is s l q slotted made (ap (λ (o : Outcome). o.image) whole-outcome) state stored ∙ upload-by passed passes
