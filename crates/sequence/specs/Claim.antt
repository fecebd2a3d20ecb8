-- The one claim about the whole sequence. A run's every beginning is a run, so all of it holds at each step on the way.
use Rattle.std.specs.Prelude.{ℕ, ◌≡◌, true, List, map, Ok}
use Rattle.records.specs.declared.payload.Payload.{Payload}
use Rattle.memory.specs.Config.{config_ok}
use Rattle.state.specs.State.{loaded, name_of}
use Rattle.model.specs.Calls.{Call, Reply}
use Rattle.model.specs.Memory.{text_of, arena_of, undo_of, ids_of}
use Rattle.model.specs.Model.{Start, Loaded, Model, opened}
use Rattle.model.specs.Step.{after, replies}
use Rattle.invariant.specs.Jobs.{Jobs}
use Rattle.refinement.specs.Stands.{Loader, config_of}
use Rattle.sequence.specs.Run.{Started, Run}

-- ---- "at the end payload list, statuses, results, version, text, arena and both stores are the model's"

-- what the list tells of a payload
pub record Listed : Type 0 where
  pub name : List ℕ
  pub slot : ℕ
  pub status : ℕ
  pub result : ℕ

abbrev pub kept : Payload → Listed
kept p = record { name = name_of p; slot = p.slot; status = p.status; result = p.result }

abbrev pub modelled : Loaded → Listed
modelled p = record { name = p.name; slot = p.slot; status = p.status; result = p.result }

pub record Matches (u : Loader) (l : Model) : Type 0 where
  pub list : map kept (loaded u.state) ≡ map modelled l.payloads
  pub version : u.state.version ≡ l.version
  pub text : u.text ≡ text_of l
  pub arena : u.arena ≡ arena_of l
  pub undo : u.undo ≡ undo_of l
  pub ids : u.ids ≡ ids_of l

-- ---- the claim: after an accepted start-up, whatever calls are made, every reply is the model's, and so are list and memory

pub record Claimed (a : Start) (cs : List Call) (rs : List Reply) (u : Loader) : Type 0 where
  pub answers : rs ≡ replies (opened a) cs
  pub matches : Matches u (after (opened a) cs)
  pub jobs : Jobs (after (opened a) cs)

abbrev pub EverySequence : Type 0
EverySequence =
    (a : Start) (u u' : Loader) (cs : List Call) (rs : List Reply) → Started a (Ok tt) u → Run u cs rs u' → Claimed a cs rs u'

-- ---- it is not empty: a start-up with right sizes and numbers is accepted, and after it every list of calls has a run

abbrev pub StartsAccepted : Type 0
StartsAccepted = (a : Start) → config_ok (config_of a) ≡ true → (u : Loader) × Started a (Ok tt) u

abbrev pub EveryCallRuns : Type 0
EveryCallRuns = (a : Start) (u : Loader) (cs : List Call) → Started a (Ok tt) u → (rs : List Reply) × (u' : Loader) × Run u cs rs u'
