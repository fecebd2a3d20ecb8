-- A call of the loader against the model's: the checks that both make decide alike.
use Rattle.records.specs.Refusal.{Verdict}
use Rattle.std.proofs.Common.{Ok, Err}
use mathlib.Core.Path.{◌≡◌, refl}
use Rattle.records.specs.Verdict.{◌then◌, decide}
use Rattle.records.specs.declared.refusal.Refusal.{Refusal}

-- two answers that one verdict decides agree where each refusal does, and where nothing is refused
pub decide-agrees :
    {A B : Type 0} (Agree : A → B → Type 0) {refused : Refusal → A} {accepted : A} {refused' : Refusal → B} {accepted' : B} (v : Verdict) →
    ((r : Refusal) → Agree (refused r) (refused' r)) → (v ≡ Ok tt → Agree accepted accepted') →
    Agree (decide refused accepted v) (decide refused' accepted' v)
decide-agrees Agree (Ok _) refusals passes = passes refl
decide-agrees Agree (Err r) refusals passes = refusals r

pub then-assoc : (a b c : Verdict) → ((a then b) then c) ≡ (a then b then c)
then-assoc (Ok _) b c = refl
then-assoc (Err r) b c = refl
