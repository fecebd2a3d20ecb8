-- All that an upload over the records buffer promises follows of its equation.
use Prim.Native.Nat.{ℕ}
use mathlib.Core.Path.{◌≡◌, refl, sym, ap, subst⁻¹, ◌∙◌}
use mathlib.Core.Bool.{Bool, true, false, cond}
use mathlib.Core.Logic.{◌↔◌}
use mathlib.Core.List.{List}
use Rattle.words.specs.Order.{equal}
use Rattle.records.specs.Refusal.{refusal_code, verdict_code}
use Rattle.records.specs.Verdict.{refusal}
use Rattle.records.specs.declared.refusal.Place.TheVariants.{Nowhere}
use Rattle.records.specs.declared.refusal.Reason.TheVariants.{Invalid}
use Rattle.records.specs.declared.refusal.Refusal.{Refusal}
use Rattle.records.proofs.Numbers.{code-some, code-zero}
use Rattle.acceptance.specs.Consulted.{DifferInIgnored}
use Rattle.upload.specs.Upload as upload
use Rattle.upload.proofs.Accepting.{uploads}
use Rattle.state_bytes.specs.Stored.{state_in, is_state, HoldsState}
use Rattle.state_bytes.proofs.Laws.{holds-still}
use Rattle.upload_call.specs.Changes.{upload_told, Acceptable, Uploads}
use Rattle.calls.specs.Told.{Told, told, invalid, stored, over_records, RecordsKept}
use Rattle.calls.proofs.Laws.{outcome-told}

module _ (b : List ℕ) (l : upload.Lent) (q : upload.Request) where
  abbrev call : upload.Uploaded
  call = upload.upload_of (state_in b) l q

  -- what the state's upload gave, told and stored
  by_call :
      (u : upload.Uploaded) {answer : ℕ} {after : List ℕ} → is_state b ≡ true → answer ≡ verdict_code u.answer → HoldsState u.state after → u ≡ call →
      (told answer after u.after ≡ upload_told b l q) × RecordsKept b call.state after
  unfolding upload_told
  by_call u = outcome-told b (λ (x : upload.Uploaded). x.answer) (λ (x : upload.Uploaded). x.state) (λ (x : upload.Uploaded). x.after) l u call

  promised : upload.Uploads (state_in b) l q call
  promised = uploads _ _ _ refl

  accepted-by : (t : Bool) → is_state b ≡ t → cond t (verdict_code call.answer) invalid ≡ 0 → Acceptable b l q
  accepted-by true e zero = record { records = e; call = promised.exactly.0 (code-zero call.answer zero) }
  accepted-by false e zero = absurd (code-some (refusal Invalid Nowhere) zero)

  answer-by : (t : Bool) → (cond t (stored call.answer call.state call.after) (told invalid b l)).answer ≡ cond t (verdict_code call.answer) invalid
  answer-by true = refl
  answer-by false = refl

  exactly : ((upload_told b l q).answer ≡ 0) ↔ Acceptable b l q
  unfolding upload_told
  exactly = (
    λ zero. accepted-by (is_state b) refl (sym (answer-by (is_state b)) ∙ zero),
    λ a.
        answer-by (is_state b)
        ∙ ap (λ (t : Bool). cond t (verdict_code call.answer) invalid) a.records
        ∙ ap verdict_code (promised.exactly.1 a.call),
  )

  same : (other : List ℕ) → DifferInIgnored q.file other → upload_told b l (upload.request q.name q.list other) ≡ upload_told b l q
  unfolding upload_told
  same other differ =
      ap (λ (u : upload.Uploaded). over_records b l (stored u.answer u.state u.after)) (promised.ignored other differ)

  pub uploads-told : {t : Told upload.Lent} → t ≡ upload_told b l q → RecordsKept b call.state t.records → Uploads b l q t
  uploads-told {t} e kept =
      record {
        equal = e;
        kept = kept;
        exactly = subst⁻¹ (λ (u : Told upload.Lent). (u.answer ≡ 0) ↔ Acceptable b l q) e exactly;
        ignored = λ other differ. same other differ ∙ sym e;
      }

  -- and all that is promised
  pub call-told :
      (u : upload.Uploaded) {answer : ℕ} {after : List ℕ} → is_state b ≡ true → answer ≡ verdict_code u.answer → HoldsState u.state after → u ≡ call →
      Uploads b l q (told answer after u.after)
  call-told u whole e holds same =
      let done = by_call u whole e holds same in
      uploads-told done.0 done.1

  -- refused, the records are as they were
  pub refusal-told :
      (after : upload.Lent) (r : Refusal) {answer : ℕ} → is_state b ≡ true → answer ≡ refusal_code r → upload.refused_upload (state_in b) after r ≡ call →
      Uploads b l q (told answer b after)
  refusal-told after r whole e same = call-told (upload.refused_upload (state_in b) after r) whole e (holds-still b whole) same
