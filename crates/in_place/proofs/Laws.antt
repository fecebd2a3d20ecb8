-- The state in bytes: what is read of it, and what the bytes hold after one part of it was replaced.
use Rattle.std.proofs.Common.{Some, None}
use Prim.Native.Nat.{ℕ}
use mathlib.Core.Path.{◌≡◌, ap, subst, ◌∙◌}
use mathlib.Core.Bool.{true}
use mathlib.Core.List.{List}
use lib.ListN.{length, take}
use Rattle.words.specs.Find.{every}
use Rattle.records.specs.declared.payload.Payload.{Payload}
use Rattle.memory.specs.declared.config.Config.{Config}
use Rattle.state.specs.Change.{changed_at, changed_in}
use Rattle.state.specs.Find.{with_slot}
use Rattle.state.specs.State.{with_job}
use Rattle.state.specs.declared.state.Job.{Job}
use Rattle.state.specs.declared.state.State.{State}
use Rattle.ranges.specs.Ranges.{in_range}
use Rattle.ranges.proofs.Laws.{InRange, in-range}
use Rattle.rendezvous.specs.Rendezvous.{is_complete}
use Rattle.state_bytes.specs.Layout.{records_size}
use Rattle.state_bytes.specs.Stored.{state_in, HoldsState}
use Rattle.state_bytes.proofs.Laws.{whole_in}

-- the state in bytes of the right number
pub ranges-of : (b : List ℕ) → length b ≡ records_size → in_range (state_in b) ≡ true → InRange (state_in b)
ranges-of b long h = in-range (whole_in b long) h

-- bytes hold one state
pub holds_as : {s t : State} {b : List ℕ} → HoldsState s b → s ≡ t → HoldsState t b
holds_as {s} {t} {b} h e = subst (λ (x : State). HoldsState x b) e h

-- then the job is replaced
pub job-after : {b after : List ℕ} {j k : Job} {s : State} → HoldsState s b → HoldsState (with_job j (state_in b)) after → j ≡ k → HoldsState (with_job k s) after
job-after {b} {after} {j} {k} h g e = holds_as g (ap (λ (x : Job). with_job x (state_in b)) e ∙ ap (λ (x : State). with_job k x) h.read)

-- ---- the payload in a slot

pub changed-there : (f : Payload → Payload) (s : State) (slot i : ℕ) → with_slot s slot ≡ Some i → changed_at f s i ≡ changed_in f s slot
unfolding changed_in
changed-there f s slot i e = rw e

pub changed-nowhere : (f : Payload → Payload) (s : State) (slot : ℕ) → with_slot s slot ≡ None → s ≡ changed_in f s slot
unfolding changed_in
changed-nowhere f s slot e = rw e

-- ---- the job

-- all CPUs are held, by job and start-up's numbers as they were read
pub all-complete : (s : State) {j : Job} {c : Config} → j ≡ s.job → c ≡ s.config → every (λ held. held) (take c.cpus j.held) ≡ is_complete s
unfolding is_complete
all-complete s e f = rw (e, f)
