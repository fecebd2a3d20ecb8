-- What holds of the model after any calls from an accepted start-up.
use Rattle.std.specs.Prelude.{ℕ, ◌+◌, ◌≤◌, ◌<◌, ◌^◌, ◌≡◌, Bool, true, false, cond, List, [], ◌∷◌, eqb, length, Option, None, Some}
use Rattle.words.specs.Name.{is_found}
use Rattle.words.specs.Find.{first_where}
use Rattle.records.specs.Limits.{placed_max, id_max, records_max}
use Rattle.records.specs.Name.{is_name}
use Rattle.records.specs.declared.payload.Edit.{Edit}
use Rattle.machine.specs.Machine.{edit_max, edit_bytes}
use Rattle.memory.specs.Memory.{slot_count}
use Rattle.memory.specs.Config.{cpus_max}
use Rattle.model.specs.Model.{Start, Loaded, Laid, Job, Model, machine}
use Rattle.model.specs.Step.{with_slot, payload_in, is_applied, is_top, is_complete, step_count}
use Rattle.invariant.specs.Done.{expected}

-- every element of a list
abbrev pub All : {A : Type 0} → (A → Type 0) → List A → Type 0
All P [] = Unit {0}
All P (x ∷ xs) = P x × All P xs

-- an edit lies in a text of this length, and its bytes are as many as it says
pub record FittingEdit (n : ℕ) (e : Edit) : Type 0 where
  pub inside : e.offset + e.length ≤ n
  pub bytes : length (edit_bytes machine e) ≡ e.length
  pub some : 1 ≤ e.length
  pub short : e.length ≤ edit_max

pub record SoundPayload (a : Start) (p : Loaded) : Type 0 where
  pub named : is_name p.name ≡ true
  pub slotted : p.slot < slot_count
  pub id_some : 1 ≤ length p.id
  pub id_short : length p.id ≤ id_max
  pub dependency_some : 1 ≤ length p.dependency
  pub dependency_short : length p.dependency ≤ id_max
  pub image : length p.image ≡ placed_max
  pub edits_some : 1 ≤ length p.edits
  pub edits_few : length p.edits ≤ records_max
  pub edits : All (FittingEdit (length a.text)) p.edits

-- no payload of the list is in this slot
abbrev pub Absent : ℕ → List Loaded → Type 0
Absent slot ps = is_found (first_where (λ p. eqb p.slot slot) ps) ≡ false

-- no two payloads are in one slot
abbrev pub Apart : List Loaded → Type 0
Apart [] = Unit {0}
Apart (p ∷ ps) = Absent p.slot ps × Apart ps

-- "Status: 1 checked, 2 applied": those on the stack are applied
abbrev pub HasStatus : List ℕ → Loaded → Type 0
HasStatus stack p = p.status ≡ cond (is_applied stack p) 2 1

-- a slot is not among these
abbrev pub Missing : ℕ → List ℕ → Type 0
Missing slot slots = is_found (first_where (λ x. eqb x slot) slots) ≡ false

abbrev pub Different : List ℕ → Type 0
Different [] = Unit {0}
Different (x ∷ xs) = Missing x xs × Different xs

-- no laid edit is this record's
abbrev pub is_record : ℕ → ℕ → Laid → Bool
is_record slot number x = cond (eqb x.slot slot) (eqb x.number number) false

abbrev pub Unlaid : ℕ → ℕ → List Laid → Type 0
Unlaid slot number xs = is_found (first_where (is_record slot number) xs) ≡ false

abbrev pub Once : List Laid → Type 0
Once [] = Unit {0}
Once (x ∷ xs) = Unlaid x.slot x.number xs × Once xs

-- a laid edit fits the text, and its undo record the store
pub record FittingLaid (n : ℕ) (x : Laid) : Type 0 where
  pub edit : FittingEdit n x.edit
  pub slot : x.slot < slot_count
  pub number : x.number < records_max

-- a job: a revert is of the top payload, an apply or a replace of one that is not on the stack; no step is done before the rendezvous is complete
pub record SoundJob (l : Model) (j : Job) : Type 0 where
  pub action_low : 2 ≤ j.action
  pub action_high : j.action ≤ 4
  pub loaded : is_found (with_slot l j.slot) ≡ true
  pub top : j.action ≡ 2 → is_top l.stack (payload_in l j.slot) ≡ true
  pub new : (j.action ≡ 2 → ⊥) → Missing j.slot l.stack
  pub held : length j.held ≡ l.start.cpus
  pub time_some : 1 ≤ j.time
  pub steps : j.steps < step_count l j
  pub gathering : is_complete j ≡ false → j.steps ≡ 0

abbrev pub SoundJobs : Model → Option Job → Type 0
SoundJobs l None = Unit {0}
SoundJobs l (Some j) = SoundJob l j

-- start-up's numbers
pub record SoundStart (a : Start) : Type 0 where
  pub id_some : 1 ≤ length a.build_id
  pub id_short : length a.build_id ≤ id_max
  pub cpus_some : 1 ≤ a.cpus
  pub cpus_few : a.cpus ≤ cpus_max

pub record Sound (l : Model) : Type 0 where
  pub start : SoundStart l.start
  pub version : l.version < 2 ^ 32
  pub payloads : All (SoundPayload l.start) l.payloads
  pub apart : Apart l.payloads
  -- the payloads on the stack are loaded, each once
  pub stacked : All (λ slot. is_found (with_slot l slot) ≡ true) l.stack
  pub different : Different l.stack
  pub statuses : All (HasStatus l.stack) l.payloads
  pub job : SoundJobs l l.job
  -- the edits laid are those of the stack, with the job's first steps done
  pub laid : l.laid ≡ expected l l.job
  pub fitting : All (FittingLaid (length l.start.text)) l.laid
  pub once : Once l.laid
