-- Ordered checks: the first that fails decides.
use Rattle.std.specs.Prelude.{ℕ, Bool, true, false, Result, Ok, Err}
use Rattle.records.specs.Refusal.{reason_for, Verdict}
use Rattle.records.specs.declared.refusal.Reason.{Reason}
use Rattle.records.specs.declared.refusal.Place.{Place}
use Rattle.records.specs.declared.refusal.Refusal.{Refusal}

abbrev pub refusal : Reason → Place → Refusal
refusal reason place = record { reason = reason; place = place }

-- one check: it holds, or it refuses with this number of document 01 at this place
abbrev pub must : Bool → ℕ → Place → Verdict
must true number place = Ok tt
must false number place = Err (refusal (reason_for number) place)

-- first one check, then the next
infixr 20 ◌then◌
abbrev pub ◌then◌ : Verdict → Verdict → Verdict
◌then◌ (Ok _) next = next
◌then◌ (Err r) next = Err r

-- a verdict decides between two answers: what a refusal gives, and what is given where nothing stands against it
abbrev pub decide : {A : Type 0} → (Refusal → A) → A → Verdict → A
decide refused accepted (Ok _) = accepted
decide refused accepted (Err r) = refused r

-- the verdict of an answer
abbrev pub verdict_of : {A : Type 0} → Result A Refusal → Verdict
verdict_of (Ok x) = Ok tt
verdict_of (Err r) = Err r
