-- Document 01's upload: a payload read, relocated in the lowest free slot and put last in the list.
use Rattle.std.specs.Prelude.{ℕ, ◌≡◌, true, false, ◌↔◌, List, length, Ok, Err}
use Rattle.words.specs.Name.{is_found}
use Rattle.words.specs.Splice.{splice}
use Rattle.records.specs.Name.{is_name}
use Rattle.records.specs.Refusal.{number_of, Verdict}
use Rattle.records.specs.Verdict.{◌then◌, decide}
use Rattle.records.specs.declared.refusal.Place.{Place}
use Rattle.records.specs.declared.refusal.Place.TheVariants.{Nowhere}
use Rattle.records.specs.declared.refusal.Refusal.{Refusal}
use Rattle.symbols.specs.SymbolList.{valid}
use Rattle.memory.specs.Config.{host_for}
use Rattle.memory.specs.Memory.{slot_at, id_at}
use Rattle.state.specs.Find.{with_name, free_slot}
use Rattle.state.specs.declared.state.Called.{Called}
use Rattle.state.specs.declared.state.State.{State}
use Rattle.acceptance.specs.Broken.{Broken}
use Rattle.acceptance.specs.Consulted.{DifferInIgnored}
use Rattle.acceptance.specs.Keeps.{Keeps}
use Rattle.acceptance.specs.Stages.{Setting, setting, relocated_of, payload_rules}
use Rattle.prepare.specs.Prepare.{Outcome, outcome, accepted_prepared}
use Rattle.prepare.specs.declared.prepare.Prepared.{Prepared}
use Rattle.upload_room.specs.Room.{upload_sizes_ok, slot_for, request_rules}
use Rattle.upload_record.specs.Record.{record_for, with_uploaded}

-- what an upload is lent besides the state: arena and id store, which it may write
pub record Lent : Type 0 where
  pub arena : List ℕ
  pub ids : List ℕ

abbrev pub lent : List ℕ → List ℕ → Lent
lent arena ids = record { arena = arena; ids = ids }

-- the request: the payload's name, the symbol list, the file
pub record Request : Type 0 where
  pub name : List ℕ
  pub list : List ℕ
  pub file : List ℕ

abbrev pub request : List ℕ → List ℕ → List ℕ → Request
request name list file = record { name = name; list = list; file = file }

-- ---- the rules, in their order: "lent sizes, name, symbol list, 17, slot, 8, .."

-- what the payload is prepared for
abbrev pub setting_for : State → List ℕ → Setting
setting_for s list = setting (host_for s.config (slot_for s)) list

unfoldable pub upload_rules : State → Lent → Request → Verdict
upload_rules s l q =
    request_rules s (length l.arena) (length l.ids) q.name q.list then payload_rules (setting_for s q.list) q.file

-- ---- what an accepted upload does

-- the payload prepared in its slot of the arena; a refusal leaves the arena as it was
unfoldable pub prepared_in : Setting → List ℕ → ℕ → List ℕ → Outcome
prepared_in t arena slot file =
    decide (λ r. outcome (Err r) arena)
    (outcome (Ok (accepted_prepared t file)) (splice arena (slot_at slot) (relocated_of t file).image))
    (payload_rules t file)

-- ---- the call: the answer, the state, and what arena and id store then hold

pub record Uploaded : Type 0 where
  pub answer : Verdict
  pub state : State
  pub after : Lent

abbrev pub uploaded : Called → Lent → Uploaded
uploaded r after = record { answer = r.verdict; state = r.state; after = after }

-- the slot's 8,192 bytes, and "id then zeros"
unfoldable pub accepted_upload : State → Lent → Request → Uploaded
accepted_upload s l q =
    let slot : ℕ = slot_for s in
    let p : Prepared = accepted_prepared (setting_for s q.list) q.file in
    record {
      answer = Ok tt;
      state = with_uploaded s (record_for q.name slot p);
      after =
          lent (splice l.arena (slot_at slot) (relocated_of (setting_for s q.list) q.file).image)
          (splice l.ids (id_at slot) p.id.bytes);
    }

abbrev pub refused_upload : State → Lent → Refusal → Uploaded
refused_upload s l r = record { answer = Err r; state = s; after = l }

unfoldable pub upload_of : State → Lent → Request → Uploaded
upload_of s l q = decide (refused_upload s l) (accepted_upload s l q) (upload_rules s l q)

-- ---- when it is accepted

-- sizes and state are right, the name is one, the list is a symbol list, the name is not loaded, a slot is free, and the payload keeps every rule
pub record Acceptable (s : State) (l : Lent) (q : Request) : Type 0 where
  pub sizes : upload_sizes_ok s (length l.arena) (length l.ids) ≡ true
  pub named : is_name q.name ≡ true
  pub listed : valid q.list ≡ true
  pub new : is_found (with_name s q.name) ≡ false
  pub free : is_found (free_slot s) ≡ true
  pub payload : Keeps (setting_for s q.list) q.file

-- a rule of the upload that is broken, with its number and place
pub data BrokenUpload (s : State) (l : Lent) (q : Request) : ℕ → Place → Type 0 where
  sizes : upload_sizes_ok s (length l.arena) (length l.ids) ≡ false → BrokenUpload s l q 22 Nowhere
  named : is_name q.name ≡ false → BrokenUpload s l q 22 Nowhere
  listed : valid q.list ≡ false → BrokenUpload s l q 22 Nowhere
  new : is_found (with_name s q.name) ≡ true → BrokenUpload s l q 17 Nowhere
  free : is_found (free_slot s) ≡ false → BrokenUpload s l q 12 Nowhere
  payload :
      (number : ℕ) (place : Place) → Broken (setting_for s q.list) q.file number place → BrokenUpload s l q number place

-- all that `upload` promises: the equation; it accepts exactly when all is right, and a refusal names a rule that is broken; a file that differs only in
-- bytes of ignored contents has the same outcome
pub record Uploads (s : State) (l : Lent) (q : Request) (u : Uploaded) : Type 0 where
  pub equal : u ≡ upload_of s l q
  pub exactly : (u.answer ≡ Ok tt) ↔ Acceptable s l q
  pub broken : (r : Refusal) → u.answer ≡ Err r → BrokenUpload s l q (number_of r.reason) r.place
  pub ignored : (other : List ℕ) → DifferInIgnored q.file other → upload_of s l (request q.name q.list other) ≡ u
