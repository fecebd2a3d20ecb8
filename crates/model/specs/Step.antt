-- What each call does to the model, and the reply that it gets: document 01's "Calls and holds", and the orders of "When the loader says no".
use Rattle.std.specs.Prelude.{ℕ, suc, ◌+◌, ◌*◌, ◌-◌, ◌%◌, ◌^◌, min, Bool, true, false, cond, not, ◌&&◌, ◌||◌, List, [], ◌∷◌, ◌++◌, map, leb, ltb, eqb, pos, neg_ℤ, length, get_or, set, take, drop, replicate, Some, None, Option, Ok, Err}
use Rattle.words.specs.Address.{stored}
use Rattle.words.specs.Find.{first_where, every}
use Rattle.words.specs.Name.{is_found}
use Rattle.words.specs.Number.{le_bytes}
use Rattle.words.specs.Order.{equal}
use Rattle.words.specs.Scan.{scan}
use Rattle.words.specs.Splice.{part, splice}
use Rattle.records.specs.Limits.{name_max}
use Rattle.records.specs.Name.{is_name}
use Rattle.records.specs.Payload.{no_edit, kept_name}
use Rattle.records.specs.Refusal.{number_of, Verdict}
use Rattle.records.specs.Verdict.{must, ◌then◌, decide}
use Rattle.records.specs.declared.payload.BuildId.{BuildId}
use Rattle.records.specs.declared.refusal.Place.TheVariants.{Nowhere}
use Rattle.symbols.specs.SymbolList.{valid}
use Rattle.memory.specs.Memory.{slot_count}
use Rattle.functions.specs.Functions.{edits_of}
use Rattle.acceptance.specs.Stages.{Setting, setting, reading_for, relocated_of, records_start, record_count, patching_of, payload_rules}
use Rattle.model.specs.Calls.{Buffers, Call, Upload, Get, ListFrom, Act, Report, Tick, Work, TopId, Reply, Says, Tells, Lists, HandsOut}
use Rattle.model.specs.Model.{Loaded, Laid, Job, Model, no_payload, host_for}

-- the model after a call, and the reply
pub record Told : Type 0 where
  pub model : Model
  pub reply : Reply

abbrev pub told : Model → Reply → Told
told l reply = record { model = l; reply = reply }

-- ---- the model with one part replaced

abbrev pub with_payloads : List Loaded → Model → Model
with_payloads ps l =
    record { start = l.start; version = l.version; payloads = ps; stack = l.stack; laid = l.laid; job = l.job }

-- "Version .. grows by 1 modulo 2^32 at each accepted upload or unload."
abbrev pub with_list : List Loaded → Model → Model
with_list ps l =
    record { start = l.start; version = (l.version + 1) % 2 ^ 32; payloads = ps; stack = l.stack; laid = l.laid; job = l.job }

abbrev pub with_laid : List Laid → Model → Model
with_laid xs l =
    record { start = l.start; version = l.version; payloads = l.payloads; stack = l.stack; laid = xs; job = l.job }

abbrev pub with_stack : List ℕ → Model → Model
with_stack slots l =
    record { start = l.start; version = l.version; payloads = l.payloads; stack = slots; laid = l.laid; job = l.job }

abbrev pub with_job : Option Job → Model → Model
with_job j l =
    record { start = l.start; version = l.version; payloads = l.payloads; stack = l.stack; laid = l.laid; job = j }

abbrev pub with_status : ℕ → Loaded → Loaded
with_status n p =
    record {
      name = p.name;
      slot = p.slot;
      status = n;
      result = p.result;
      id = p.id;
      dependency = p.dependency;
      image = p.image;
      edits = p.edits;
    }

abbrev pub with_result : ℕ → Loaded → Loaded
with_result n p =
    record {
      name = p.name;
      slot = p.slot;
      status = p.status;
      result = n;
      id = p.id;
      dependency = p.dependency;
      image = p.image;
      edits = p.edits;
    }

-- ---- payloads by name and by slot

unfoldable pub with_name : Model → List ℕ → Option ℕ
with_name l name = first_where (λ p. equal p.name name) l.payloads

unfoldable pub with_slot : Model → ℕ → Option ℕ
with_slot l slot = first_where (λ p. eqb p.slot slot) l.payloads

-- the payload at a place of the list
abbrev pub payload_found : Model → Option ℕ → Loaded
payload_found l (Some i) = get_or l.payloads i no_payload
payload_found l None = no_payload

abbrev pub named : Model → List ℕ → Loaded
named l name = payload_found l (with_name l name)

abbrev pub payload_in : Model → ℕ → Loaded
payload_in l slot = payload_found l (with_slot l slot)

-- it, changed
abbrev pub changed_found : (Loaded → Loaded) → Model → Option ℕ → Model
changed_found f l (Some i) = with_payloads (set l.payloads i (f (get_or l.payloads i no_payload))) l
changed_found f l None = l

abbrev pub changed_in : (Loaded → Loaded) → Model → ℕ → Model
changed_in f l slot = changed_found f l (with_slot l slot)

-- ---- upload

-- "an upload takes the lowest free one"
unfoldable pub free_slot : Model → Option ℕ
free_slot l = scan (λ slot rest. cond (is_found (with_slot l slot)) rest (Some slot)) None 0 slot_count

abbrev pub slot_in : Option ℕ → ℕ
slot_in (Some slot) = slot
slot_in None = 0

abbrev pub setting_for : Model → List ℕ → Setting
setting_for l list = setting (host_for l.start (slot_in (free_slot l))) list

-- "Upload order: lent sizes, name, symbol list, 17, slot, 8, .."
unfoldable pub upload_rules : Model → List ℕ → List ℕ → List ℕ → Verdict
upload_rules l name list file =
    must (is_name name) 22 Nowhere
    then must (valid list) 22 Nowhere
    then must (not (is_found (with_name l name))) 17 Nowhere
    then must (is_found (free_slot l)) 12 Nowhere
    then payload_rules (setting_for l list) file

abbrev pub id_bytes : BuildId → List ℕ
id_bytes id = take id.length id.bytes

-- "Status: 1 checked", "The last result starts at 0"
unfoldable pub loaded_from : Model → List ℕ → List ℕ → List ℕ → Loaded
loaded_from l name list file =
    let t : Setting = setting_for l list in
    record {
      name = name;
      slot = slot_in (free_slot l);
      status = 1;
      result = 0;
      id = id_bytes (reading_for file).id;
      dependency = id_bytes (reading_for file).dependency;
      image = (relocated_of t file).image;
      edits = take (record_count file) (edits_of (patching_of t file) (records_start file) (record_count file));
    }

-- "The list is in upload order."
unfoldable pub upload : Model → List ℕ → List ℕ → List ℕ → Told
upload l name list file =
    decide (λ r. told l (Says (Err r)))
    (told (with_list (l.payloads ++ (loaded_from l name list file ∷ [])) l) (Says (Ok tt)))
    (upload_rules l name list file)

-- ---- get and list

-- the last result as the 32-bit number that tells it
abbrev pub result_word : Loaded → ℕ
result_word p = stored 32 (neg_ℤ (pos p.result))

-- "Get order: lent sizes, name, 2."
unfoldable pub get : Model → List ℕ → Reply
get l name =
    decide (λ r. Tells (Err r) 0 0) (Tells (Ok tt) (named l name).status (result_word (named l name)))
    (must (is_name name) 22 Nowhere then must (is_found (with_name l name)) 2 Nowhere)

-- "status and result (4 + 4 bytes), name (128), length (4), little-endian"
abbrev pub status_bytes : Loaded → List ℕ
status_bytes p = le_bytes 4 p.status ++ le_bytes 4 (result_word p)

abbrev pub name_bytes : Loaded → List ℕ
name_bytes p = kept_name p.name

abbrev pub length_bytes : Loaded → List ℕ
length_bytes p = le_bytes 4 (length p.name)

unfoldable pub joined : (Loaded → List ℕ) → List Loaded → List ℕ
joined bytes [] = []
joined bytes (p ∷ ps) = bytes p ++ joined bytes ps

-- "other bytes stay"
abbrev pub written_over : List Loaded → Buffers → Buffers
written_over ps b =
    record {
      statuses = splice b.statuses 0 (joined status_bytes ps);
      names = splice b.names 0 (joined name_bytes ps);
      lengths = splice b.lengths 0 (joined length_bytes ps);
    }

-- "in three lent buffers with room for nr"
unfoldable pub has_room : ℕ → Buffers → Bool
has_room nr b =
    leb (8 * nr) (length b.statuses) && leb (name_max * nr) (length b.names) && leb (4 * nr) (length b.lengths)

-- "List order: lent sizes, 7, idx, room."
unfoldable pub list_from : Model → ℕ → ℕ → Buffers → Reply
list_from l idx nr b =
    let count : ℕ = length l.payloads in
    let written : ℕ = min nr (count - idx) in
    decide (λ r. Lists (Err r) 0 0 0 b)
    (Lists (Ok tt) written (count - idx - written) l.version (written_over (part l.payloads idx written) b))
    (must (leb nr slot_count) 7 Nowhere then must (leb idx count) 22 Nowhere then must (has_room nr b) 22 Nowhere)

-- ---- the id the stack stands on: "the top payload's, or the hypervisor's when nothing is applied"

abbrev pub top_id_over : Model → List ℕ → List ℕ
top_id_over l [] = l.start.build_id
top_id_over l (slot ∷ older) = (payload_in l slot).id

unfoldable pub top_id : Model → List ℕ
top_id l = top_id_over l l.stack

-- ---- actions: "1 unload, 2 revert, 3 apply, 4 replace"

abbrev pub is_standing : Option Job → Bool
is_standing None = false
is_standing (Some j) = true

-- "a job stands: actions 2 to 4, or unload of its payload"
abbrev pub is_busy : Option Job → ℕ → Loaded → Bool
is_busy None command p = false
is_busy (Some j) command p = not (eqb command 1) || eqb j.slot p.slot

abbrev pub is_top : List ℕ → Loaded → Bool
is_top [] p = false
is_top (slot ∷ older) p = eqb slot p.slot

-- "Action order: lent sizes, name, 2, command (22), 16, status (22), 33.": up to 16
unfoldable pub request_rules : Model → List ℕ → ℕ → Verdict
request_rules l name command =
    must (is_name name) 22 Nowhere
    then must (is_found (with_name l name)) 2 Nowhere
    then must (leb 1 command && leb command 4) 22 Nowhere
    then must (not (is_busy l.job command (named l name))) 16 Nowhere

-- "Revert needs status 2, then the top; the others need status 1." "Apply needs the payload's dependency to equal that id (length and bytes).
-- Replace needs the hypervisor's id."
unfoldable pub base_ok : Model → ℕ → Loaded → Bool
base_ok l command p =
    cond (eqb command 2) (is_top l.stack p)
    (cond (eqb command 3) (equal p.dependency (top_id l))
    (cond (eqb command 4) (equal p.dependency l.start.build_id)
    true))

unfoldable pub condition_rules : Model → ℕ → Loaded → Verdict
condition_rules l command p =
    must (eqb p.status (cond (eqb command 2) 2 1)) 22 Nowhere
    then must (base_ok l command p) 33 Nowhere

-- the list without the payload at a place
abbrev pub without : Option ℕ → List Loaded → List Loaded
without (Some i) ps = take i ps ++ drop (suc i) ps
without None ps = ps

-- "that payload's result is -11"; "Each tick takes 1 from the time given (32 bits, 0 means 30)"
abbrev pub job_for : Model → ℕ → Loaded → ℕ → Job
job_for l command p time =
    record {
      action = command;
      slot = p.slot;
      held = replicate l.start.cpus false;
      time = cond (eqb time 0) 30 time;
      steps = 0;
    }

-- "Unload is done at once ... The others become the one job"
abbrev pub acted : Model → List ℕ → ℕ → ℕ → Model
acted l name command time =
    cond (eqb command 1) (with_list (without (with_name l name) l.payloads) l)
    (with_job (Some (job_for l command (named l name) time)) (changed_found (with_result 11) l (with_name l name)))

-- "The last two set the result to the negated number."
unfoldable pub act : Model → List ℕ → ℕ → ℕ → Told
act l name command time =
    decide (λ r. told l (Says (Err r)))
    (decide
    (λ r. told (changed_found (with_result (number_of r.reason)) l (with_name l name)) (Says (Err r)))
    (told (acted l name command time) (Says (Ok tt)))
    (condition_rules l command (named l name)))
    (request_rules l name command)

-- ---- report, tick and work: "22 .. with no job"

abbrev pub no_job : Model → Told
no_job l = told l (Says (must false 22 Nowhere))

-- "Once all are held the hold is complete"
abbrev pub is_complete : Job → Bool
is_complete j = every (λ held. held) j.held

abbrev pub with_held : ℕ → Job → Job
with_held cpu j = record { action = j.action; slot = j.slot; held = set j.held cpu true; time = j.time; steps = j.steps }

abbrev pub with_time : ℕ → Job → Job
with_time time j = record { action = j.action; slot = j.slot; held = j.held; time = time; steps = j.steps }

abbrev pub with_steps : ℕ → Job → Job
with_steps n j = record { action = j.action; slot = j.slot; held = j.held; time = j.time; steps = n }

-- "A report marks one CPU (0 to count - 1) held (again: no change)."
abbrev pub report_with : Model → Option Job → ℕ → Told
report_with l None cpu = no_job l
report_with l (Some j) cpu =
    decide (λ r. told l (Says (Err r))) (told (with_job (Some (with_held cpu j)) l) (Says (Ok tt)))
    (must (ltb cpu l.start.cpus) 22 Nowhere)

-- "at 0 the job ends with result -16, status as before, all CPUs free"
abbrev pub timed_out : Model → Job → Model
timed_out l j = with_job None (changed_in (with_result 16) l j.slot)

-- "Each tick takes 1 from the time given"; once the hold is complete, "ticks do nothing"
abbrev pub tick_with : Model → Option Job → Told
tick_with l None = no_job l
tick_with l (Some j) =
    told
    (cond (is_complete j) l
    (cond (eqb j.time 1) (timed_out l j)
    (with_job (Some (with_time (j.time - 1) j)) l)))
    (Says (Ok tt))

-- how many edits the payloads in these slots have
unfoldable pub edit_count : Model → List ℕ → ℕ
edit_count l [] = 0
edit_count l (slot ∷ older) = length (payload_in l slot).edits + edit_count l older

-- "Removals (revert: its payload's edits; replace: all laid) precede layings"
abbrev pub removal_count : Model → Job → ℕ
removal_count l j =
    cond (eqb j.action 2) (length (payload_in l j.slot).edits)
    (cond (eqb j.action 4) (edit_count l l.stack)
    0)

abbrev pub laying_count : Model → Job → ℕ
laying_count l j = cond (eqb j.action 2) 0 (length (payload_in l j.slot).edits)

abbrev pub step_count : Model → Job → ℕ
step_count l j = removal_count l j + laying_count l j

-- the edit of a payload's record
abbrev pub laid_from : Loaded → ℕ → Laid
laid_from p r = record { slot = p.slot; number = r; edit = get_or p.edits r no_edit }

-- "work step k does the k-th": the newest laid edit is taken off, or the payload's next one is laid
abbrev pub laid_after : Model → Job → List Laid
laid_after l j =
    cond (ltb j.steps (removal_count l j)) (drop 1 l.laid)
    (laid_from (payload_in l j.slot) (j.steps - removal_count l j) ∷ l.laid)

-- "The last takes removed payloads off the stack and puts the laid one on."
abbrev pub stack_after : ℕ → ℕ → List ℕ → List ℕ
stack_after action slot stack =
    cond (eqb action 2) (drop 1 stack)
    (cond (eqb action 3) (slot ∷ stack)
    (slot ∷ []))

-- whether a payload is on the stack
abbrev pub is_applied : List ℕ → Loaded → Bool
is_applied stack p = is_found (first_where (λ slot. eqb slot p.slot) stack)

-- "result 0, statuses set": those on the stack are applied, the others checked
abbrev pub with_statuses : List ℕ → List Loaded → List Loaded
with_statuses stack ps = map (λ p. with_status (cond (is_applied stack p) 2 1) p) ps

-- "The step with the last edit ends the job: result 0, statuses set, CPUs free."
abbrev pub ended : Model → Job → Model
ended l j =
    let stack : List ℕ = stack_after j.action j.slot l.stack in
    let settled : Model = changed_in (with_result 0) l j.slot in
    with_job None (with_stack stack (with_payloads (with_statuses stack settled.payloads) settled))

-- "each work step makes one edit"
abbrev pub worked : Model → Job → Model
worked l j =
    let after : Model = with_laid (laid_after l j) l in
    cond (eqb (j.steps + 1) (step_count l j)) (ended after j) (with_job (Some (with_steps (j.steps + 1) j)) after)

-- "Work order: 22, then 16."
abbrev pub work_with : Model → Option Job → Told
work_with l None = no_job l
work_with l (Some j) =
    decide (λ r. told l (Says (Err r))) (told (worked l j) (Says (Ok tt))) (must (is_complete j) 16 Nowhere)

-- ---- all calls

unfoldable pub step : Model → Call → Told
step l (Upload name list file) = upload l name list file
step l (Get name) = told l (get l name)
step l (ListFrom idx nr b) = told l (list_from l idx nr b)
step l (Act name command time) = act l name command time
step l (Report cpu) = report_with l l.job cpu
step l Tick = tick_with l l.job
step l Work = work_with l l.job
step l TopId = told l (HandsOut (top_id l))

-- the model after calls, and their replies
unfoldable pub after : Model → List Call → Model
after l [] = l
after l (c ∷ cs) = after (step l c).model cs

unfoldable pub replies : Model → List Call → List Reply
replies l [] = []
replies l (c ∷ cs) = (step l c).reply ∷ replies (step l c).model cs
