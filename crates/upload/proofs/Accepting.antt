-- All that `upload` promises follows of the equation: it accepts exactly when all is right, a refusal names a rule that is broken, and bytes of
-- ignored contents change nothing.
use Rattle.std.proofs.Common.{Ok, Err}
use Prim.Native.Nat.{ℕ}
use mathlib.Core.Path.{◌≡◌, refl, sym, subst⁻¹, ◌∙◌}
use mathlib.Core.Bool.{Bool, true, false}
use mathlib.Core.Logic.{◌↔◌, ⊎_elim}
use mathlib.Core.List.{List}
use borrow.Author.Tests.{not-false}
use lib.ListN.{length}
use Rattle.records.specs.Refusal.{number_of, reason_for, Verdict}
use Rattle.records.specs.Verdict.{must, ◌then◌, decide}
use Rattle.records.specs.declared.refusal.Place.{Place}
use Rattle.records.specs.declared.refusal.Place.TheVariants.{Nowhere}
use Rattle.records.specs.declared.refusal.Refusal.{Refusal}
use Rattle.records.proofs.Checks.{Told, then-pass, decided-verdict}
use Rattle.state.specs.declared.state.State.{State}
use Rattle.acceptance.specs.Consulted.{DifferInIgnored}
use Rattle.acceptance.specs.Stages.{Setting, payload_rules}
use Rattle.acceptance.proofs.Exactness.{exact}
use Rattle.acceptance.proofs.Refusals.{pass-refuses, same-refusal, then-refuses}
use Rattle.acceptance.proofs.SameAnswers.{SameAnswer, alike_same, differ-alike}
use Rattle.upload_room.specs.Room.{room_rules, request_rules}
use Rattle.upload.specs.Upload.{Lent, Request, request, setting_for, upload_rules, Uploaded, accepted_upload, refused_upload, upload_of, Acceptable, BrokenUpload, Uploads}
use Rattle.upload.proofs.StageLaws.{has_room}

module _ (s : State) (l : Lent) (q : Request) where
  abbrev aim : Setting
  aim = setting_for s q.list

  abbrev requested : Verdict
  requested = request_rules s (length l.arena) (length l.ids) q.name q.list

  -- ---- accepted exactly when all is right

  passed : upload_rules s l q ≡ Ok tt → Acceptable s l q
  unfolding upload_rules
  passed pass =
      let stages = then-pass requested (payload_rules aim q.file) pass in
      let room = has_room _ _ _ _ _ stages.0 in
      record {
        sizes = room.sizes;
        named = room.named;
        listed = room.listed;
        new = room.new;
        free = room.free;
        payload = (exact aim q.file).accepted stages.1;
      }

  passing : Acceptable s l q → upload_rules s l q ≡ Ok tt
  unfolding upload_rules request_rules room_rules
  passing a = rw (a.sizes, a.named, a.listed, a.new, a.free) ((exact aim q.file).kept a.payload)

  -- the answer is the verdict of the rules
  told : Told (λ u. u.answer) (refused_upload s l) (accepted_upload s l q)
  unfolding accepted_upload
  told = record { refusing = λ r. refl; accepting = refl }

  answered : (upload_of s l q).answer ≡ upload_rules s l q
  unfolding upload_of
  answered = decided-verdict _ _ _ told (upload_rules s l q)

  exactly : ((upload_of s l q).answer ≡ Ok tt) ↔ Acceptable s l q
  exactly = (λ pass. passed (sym answered ∙ pass), λ a. answered ∙ passing a)

  -- ---- a refusal names a rule that is broken

  abbrev Names : Verdict → Type 0
  Names v = (r : Refusal) → v ≡ Err r → BrokenUpload s l q (number_of r.reason) r.place

  one : (test : Bool) (number : ℕ) (place : Place) → (test ≡ false → BrokenUpload s l q (number_of (reason_for number)) place) → Names (must test number place)
  one true number place broken r e = absurd (pass-refuses e)
  one false number place broken r e = rw (same-refusal e) (broken refl)

  either : (a b : Verdict) → Names a → Names b → Names (a then b)
  either a b first second r e = ⊎_elim (first r) (λ later. second r later.1) (then-refuses a b e)

  named : Names (upload_rules s l q)
  unfolding upload_rules request_rules room_rules
  named =
      either _ _
      (either _ _ (one _ 22 Nowhere BrokenUpload.sizes)
      (either _ _ (one _ 22 Nowhere BrokenUpload.named)
      (either _ _ (one _ 22 Nowhere BrokenUpload.listed)
      (either _ _ (one _ 17 Nowhere (λ h. BrokenUpload.new (not-false _ h)))
      (one _ 12 Nowhere BrokenUpload.free)))))
      (λ r e. BrokenUpload.payload _ _ ((exact aim q.file).refused r e))

  -- ---- bytes of ignored contents

  module _ (other : List ℕ) (differ : DifferInIgnored q.file other) where
    same : SameAnswer aim q.file other
    same = alike_same aim q.file other (differ-alike q.file other differ)

    abbrev instead : Request
    instead = request q.name q.list other

    by-verdict :
        (v w : Verdict) → payload_rules aim q.file ≡ w →
        decide (refused_upload s l) (accepted_upload s l instead) (v then w) ≡ decide (refused_upload s l) (accepted_upload s l q) (v then w)
    unfolding accepted_upload
    by-verdict (Err r) w e = refl
    by-verdict (Ok _) (Err r) e = refl
    by-verdict (Ok _) (Ok _) e =
        let given = same.given e in
        rw (given.3, given.4, given.2, given.0, given.1)

    same-upload : upload_of s l instead ≡ upload_of s l q
    unfolding upload_of upload_rules
    same-upload = rw (← same.rules) (by-verdict requested (payload_rules aim q.file) refl)

  pub uploads : {u : Uploaded} → u ≡ upload_of s l q → Uploads s l q u
  uploads e =
      subst⁻¹ (Uploads s l q) e
      (record { equal = refl; exactly = exactly; broken = λ r refused. named r (sym answered ∙ refused); ignored = same-upload })
