-- The one claim about the whole sequence, for the functions that a host calls. A run's every beginning is a run, so all of it holds at each step on the
-- way.
use Rattle.std.specs.Prelude.{◌≡◌, true, List, map}
use Rattle.state_bytes.specs.Stored.{state_in, is_state}
use Rattle.queries.specs.TopId.{id_there}
use Rattle.model.specs.Model.{Start, opened}
use Rattle.model.specs.Step.{after, top_id}
use Rattle.invariant.specs.Jobs.{Jobs}
use Rattle.refinement.specs.Stands.{Loader}
use Rattle.sequence.specs.Claim.{Matches}
use Rattle.exported.specs.Calls.{Call, Reply, plain, top_place_of, replies_for}
use Rattle.exported.specs.Run.{Host, Started, Run}

-- the state that the records hold, and the memory
abbrev pub loader_of : Host → Loader
loader_of h =
    record { state = state_in h.records; text = h.text; arena = h.arena; undo = h.undo; ids = h.ids; build_id = h.build_id }

-- after an accepted start-up, whatever calls are made, every reply is the model's, the records are a state's, and its list and all memory are the model's
pub record Claimed (a : Start) (cs : List Call) (rs : List Reply) (h : Host) : Type 0 where
  pub answers : rs ≡ replies_for (opened a) cs
  pub records : is_state h.records ≡ true
  pub matches : Matches (loader_of h) (after (opened a) (map plain cs))
  -- the place of the top build-id that a reply gives is where the model's bytes stand
  pub top : id_there (top_place_of (after (opened a) (map plain cs))) h.build_id h.ids ≡ top_id (after (opened a) (map plain cs))
  pub jobs : Jobs (after (opened a) (map plain cs))

abbrev pub EveryExportedSequence : Type 0
EveryExportedSequence = (a : Start) (h h' : Host) (cs : List Call) (rs : List Reply) → Started a 0 h → Run h cs rs h' → Claimed a cs rs h'
