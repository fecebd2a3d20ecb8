-- The calls over the C boundary with their arguments, what each returns, and what the model says of it.
use Rattle.std.specs.Prelude.{ℕ, cond, List, [], ◌∷◌, ◌++◌, eqb, length}
use Rattle.words.specs.Number.{le_bytes}
use Rattle.records.specs.Refusal.{verdict_code}
use Rattle.records.specs.Verdict.{decide}
use Rattle.memory.specs.Memory.{id_at}
use Rattle.queries.specs.TopId.{id_place, id_verdict}
use Rattle.queries.specs.declared.top_id.IdPlace.{IdPlace}
use Rattle.questions.specs.Questions.{get_size, list_size, top_size, place_bytes}
use Rattle.calls.specs.Told.{invalid}
use Rattle.model.specs.Calls as model
use Rattle.model.specs.Model.{Model}
use Rattle.model.specs.Step.{payload_in, step}

pub data Call : Type 0 where
  -- name, symbol list, file
  Upload : List ℕ → List ℕ → List ℕ → Call
  -- name, and what the out buffer holds
  Get : List ℕ → List ℕ → Call
  -- idx, nr, and what the three buffers and the out buffer hold
  ListFrom : ℕ → ℕ → model.Buffers → List ℕ → Call
  -- name, command, time
  Act : List ℕ → ℕ → ℕ → Call
  -- CPU
  Report : ℕ → Call
  Tick : Call
  Work : Call
  -- what the out buffer holds
  TopId : List ℕ → Call

pub data Reply : Type 0 where
  -- the number that is returned
  Returns : ℕ → Reply
  -- and what the out buffer then holds
  Fills : ℕ → List ℕ → Reply
  -- and list's three buffers
  FillsList : ℕ → List ℕ → model.Buffers → Reply

-- the model's call
abbrev pub plain : Call → model.Call
plain (Upload name list file) = model.Upload name list file
plain (Get name out) = model.Get name
plain (ListFrom idx nr buffers out) = model.ListFrom idx nr buffers
plain (Act name command time) = model.Act name command time
plain (Report cpu) = model.Report cpu
plain Tick = model.Tick
plain Work = model.Work
plain (TopId out) = model.TopId

-- ---- the model's reply as numbers and bytes

-- 0, or the refusal in one number
abbrev pub number_for : model.Reply → ℕ
number_for (model.Says v) = verdict_code v
number_for (model.Tells v status result) = verdict_code v
number_for (model.Lists v written left version buffers) = verdict_code v
number_for (model.HandsOut id) = verdict_code (id_verdict id)

-- what an out buffer then holds: get's status and result, list's three numbers; a refusal leaves it
abbrev pub out_for : List ℕ → model.Reply → List ℕ
out_for out (model.Says v) = out
out_for out (model.Tells v status result) = decide (λ r. out) (le_bytes 4 status ++ le_bytes 4 result) v
out_for out (model.Lists v written left version buffers) =
    decide (λ r. out) (le_bytes 4 written ++ le_bytes 4 left ++ le_bytes 4 version) v
out_for out (model.HandsOut id) = out

-- list's three buffers after it
abbrev pub buffers_for : model.Buffers → model.Reply → model.Buffers
buffers_for b (model.Lists v written left version after) = after
buffers_for b (model.Says v) = b
buffers_for b (model.Tells v status result) = b
buffers_for b (model.HandsOut id) = b

-- where the top build-id stands: in the hypervisor's build-id, or in the id store at the slot of the payload that was applied last
abbrev pub top_place_over : Model → List ℕ → IdPlace
top_place_over l [] = id_place 0 0 (length l.start.build_id)
top_place_over l (slot ∷ older) = id_place 1 (id_at slot) (length (payload_in l slot).id)

unfoldable pub top_place_of : Model → IdPlace
top_place_of l = top_place_over l l.stack

-- what a call returns and leaves in the caller's buffers; an out buffer of another size gets 22
unfoldable pub reply_for : Model → Call → Reply
reply_for l (Upload name list file) = Returns (number_for (step l (model.Upload name list file)).reply)
reply_for l (Get name out) =
    let reply : model.Reply = (step l (model.Get name)).reply in
    cond (eqb (length out) get_size) (Fills (number_for reply) (out_for out reply)) (Fills invalid out)
reply_for l (ListFrom idx nr buffers out) =
    let reply : model.Reply = (step l (model.ListFrom idx nr buffers)).reply in
    cond (eqb (length out) list_size) (FillsList (number_for reply) (out_for out reply) (buffers_for buffers reply)) (FillsList invalid out buffers)
reply_for l (Act name command time) = Returns (number_for (step l (model.Act name command time)).reply)
reply_for l (Report cpu) = Returns (number_for (step l (model.Report cpu)).reply)
reply_for l Tick = Returns (number_for (step l model.Tick).reply)
reply_for l Work = Returns (number_for (step l model.Work).reply)
reply_for l (TopId out) = cond (eqb (length out) top_size) (Fills 0 (place_bytes (top_place_of l))) (Fills invalid out)

unfoldable pub replies_for : Model → List Call → List Reply
replies_for l [] = []
replies_for l (c ∷ cs) = reply_for l c ∷ replies_for (step l (plain c)).model cs
