-- What holds of a list of payloads holds of another: with other statuses and results, and of what a stack and a job need of it.
use Rattle.std.proofs.Common.{Some, None, Option, ℕ}
use Prim.Native.Nat.{ℕ, ◌^◌, ◌<◌}
use mathlib.Core.Path.{◌≡◌, refl, sym, ap, ◌∙◌}
use mathlib.Core.Bool.{true}
use mathlib.Core.List.{List, [], ◌∷◌, map}
use lib.ListN.{get_or, set}
use lib.Seq.{map-set_same}
use Rattle.model.specs.Model.{Start, Loaded, Job, Model, no_payload}
use Rattle.model.specs.Step.{with_payloads, with_status, with_result, changed_found, is_top}
use Rattle.invariant.specs.Sound.{All, SoundPayload, Apart, HasStatus}
use Rattle.invariant.proofs.Lists.{all-as, all_map, all-unmap}
use Rattle.invariant.proofs.Slots.{slots, slots-bare, apart-different, different-apart, bare}
use Rattle.invariant.proofs.Edits.{Kept, kept-bare, steps-kept, done-kept, edits-kept}
use Rattle.invariant.proofs.Parts.{Stacked, JobsParts, expected_in, Parts}

-- ---- other statuses and results

module _ (a : Start) where
  sound-with : (p : Loaded) (status result : ℕ) → SoundPayload a p → SoundPayload a (with_status status (with_result result p))
  sound-with p status result s =
      record {
        named = s.named;
        slotted = s.slotted;
        id_some = s.id_some;
        id_short = s.id_short;
        dependency_some = s.dependency_some;
        dependency_short = s.dependency_short;
        image = s.image;
        edits_some = s.edits_some;
        edits_few = s.edits_few;
        edits = s.edits;
      }

  module _ (ps qs : List Loaded) (e : map bare qs ≡ map bare ps) where
    pub payloads-bare : All (SoundPayload a) ps → All (SoundPayload a) qs
    payloads-bare s =
        all-as _ _ (λ p. sound-with (bare p) p.status p.result) qs
        (all-unmap (SoundPayload a) bare qs (rw e (all_map (SoundPayload a) bare ps (all-as _ _ (λ p. sound-with p 0 0) ps s))))

pub apart_bare : (ps qs : List Loaded) → map bare qs ≡ map bare ps → Apart ps → Apart qs
apart_bare ps qs e s =
    let same : slots qs ≡ slots ps = sym (slots-bare qs) ∙ ap slots e ∙ slots-bare ps in
    different-apart qs (rw same (apart-different ps s))

-- ---- what a stack and a job need

abbrev pub KeptJob : List Loaded → List Loaded → Option Job → Type 0
KeptJob ps qs None = Unit {0}
KeptJob ps qs (Some j) = Kept ps qs j.slot

is-top : (stack : List ℕ) (p q : Loaded) → q.slot ≡ p.slot → is_top stack p ≡ true → is_top stack q ≡ true
is-top [] p q e h = h
is-top (slot ∷ older) p q e h = rw e h

module _ (ps qs : List Loaded) (stack : List ℕ) (k : All (Kept ps qs) stack) where
  pub stacked-kept : Stacked ps stack → Stacked qs stack
  stacked-kept s = by-slot stack k s
    where
      by-slot : (xs : List ℕ) → All (Kept ps qs) xs → Stacked ps xs → Stacked qs xs
      by-slot [] k s = tt
      by-slot (x ∷ xs) k s = (k.0.held ∙ s.0, by-slot xs k.1 s.1)

  pub job-kept : (a : Start) (o : Option Job) → KeptJob ps qs o → JobsParts a ps stack o → JobsParts a qs stack o
  job-kept a None h s = tt
  job-kept a (Some j) h s =
      record {
        action_low = s.action_low;
        action_high = s.action_high;
        loaded = h.held ∙ s.loaded;
        top = λ e. is-top stack _ _ h.own (s.top e);
        new = s.new;
        held = s.held;
        time_some = s.time_some;
        steps_left = rw (steps-kept ps qs stack j.action j.slot k h) s.steps_left;
        gathering = s.gathering;
      }

  pub expected-kept : (o : Option Job) → KeptJob ps qs o → expected_in qs stack o ≡ expected_in ps stack o
  expected-kept None h = edits-kept ps qs stack k
  expected-kept (Some j) h = done-kept ps qs stack j.action j.slot k h j.steps

-- with other statuses and results it has all that they need
pub all-kept : (ps qs : List Loaded) → map bare qs ≡ map bare ps → (stack : List ℕ) → All (Kept ps qs) stack
all-kept ps qs e [] = tt
all-kept ps qs e (slot ∷ older) = (kept-bare ps qs e slot, all-kept ps qs e older)

pub kept-job : (ps qs : List Loaded) → map bare qs ≡ map bare ps → (o : Option Job) → KeptJob ps qs o
kept-job ps qs e None = tt
kept-job ps qs e (Some j) = kept-bare ps qs e j.slot

-- ---- other results

-- the list with the result of the payload found
abbrev pub resulted : ℕ → List Loaded → Option ℕ → List Loaded
resulted n ps (Some i) = set ps i (with_result n (get_or ps i no_payload))
resulted n ps None = ps

pub changed-is : (n : ℕ) (l : Model) (f : Option ℕ) → changed_found (with_result n) l f ≡ with_payloads (resulted n l.payloads f) l
changed-is n l (Some i) = refl
changed-is n l None = refl

abbrev pub SameButResult : List Loaded → List Loaded → Type 0
SameButResult ps qs = map (with_result 0) qs ≡ map (with_result 0) ps

pub result-only : (n : ℕ) (ps : List Loaded) (f : Option ℕ) → SameButResult ps (resulted n ps f)
result-only n ps (Some i) = map-set_same (with_result 0) ps i _ no_payload refl
result-only n ps None = refl

bare-result : (ps : List Loaded) → map (with_status 0) (map (with_result 0) ps) ≡ map bare ps
bare-result [] = refl
bare-result (p ∷ ps) = rw (bare-result ps)

module _ (ps qs : List Loaded) (e : SameButResult ps qs) where
  pub result-bare : map bare qs ≡ map bare ps
  result-bare = sym (bare-result qs) ∙ ap (map (with_status 0)) e ∙ bare-result ps

  pub result-statuses : (stack : List ℕ) → All (HasStatus stack) ps → All (HasStatus stack) qs
  result-statuses stack s = all-unmap (HasStatus stack) (with_result 0) qs (rw e (all_map (HasStatus stack) (with_result 0) ps s))

-- ---- a sound model with another list

module _ (l : Model) (s : Parts l) (qs : List Loaded) (kept : All (Kept l.payloads qs) l.stack) (job : KeptJob l.payloads qs l.job) where
  pub relisted :
      (version : ℕ) → version < 2 ^ 32 → All (SoundPayload l.start) qs → Apart qs → All (HasStatus l.stack) qs →
      Parts record { start = l.start; version = version; payloads = qs; stack = l.stack; laid = l.laid; job = l.job }
  relisted version fits payloads apart statuses =
      record {
        start = s.start;
        version = fits;
        payloads = payloads;
        apart = apart;
        stacked = stacked-kept l.payloads qs l.stack kept s.stacked;
        different = s.different;
        statuses = statuses;
        job = job-kept l.payloads qs l.stack kept l.start l.job job s.job;
        laid = s.laid ∙ sym (expected-kept l.payloads qs l.stack kept l.job job);
      }

-- with other results
pub results-kept : (l : Model) (qs : List Loaded) → SameButResult l.payloads qs → Parts l → Parts (with_payloads qs l)
results-kept l qs same s =
    let e = result-bare l.payloads qs same in
    relisted l s qs (all-kept l.payloads qs e l.stack) (kept-job l.payloads qs e l.job)
    l.version
    s.version
    (payloads-bare l.start l.payloads qs e s.payloads)
    (apart_bare l.payloads qs e s.apart)
    (result-statuses l.payloads qs same l.stack s.statuses)

-- with the result of the payload found
pub result-kept : (n : ℕ) (l : Model) (f : Option ℕ) → Parts l → Parts (with_payloads (resulted n l.payloads f) l)
result-kept n l f s = results-kept l (resulted n l.payloads f) (result-only n l.payloads f) s
