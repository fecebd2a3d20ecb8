-- All that `prepare_payload` promises follows of the equation: 0 is returned exactly when the payload and all that comes with it are
-- right, and bytes of ignored contents change nothing.
use Rattle.records.specs.Refusal.{Verdict}
use Rattle.std.proofs.Common.{Ok, Err}
use Prim.Native.Nat.{ℕ}
use mathlib.Core.Path.{◌≡◌, refl, sym, ap, subst⁻¹, ◌∙◌}
use mathlib.Core.Bool.{Bool, true, false, and-false, false≢true}
use mathlib.Core.Logic.{◌↔◌}
use mathlib.Core.List.{List}
use borrow.Author.Tests.{eq-eqb}
use lib.Dec.{leb}
use Rattle.words.proofs.Tests.{both}
use Rattle.records.specs.Verdict.{must, decide}
use Rattle.records.specs.declared.refusal.Place.TheVariants.{Nowhere}
use Rattle.records.proofs.Checks.{must-pass, then-pass}
use Rattle.records.proofs.Numbers.{code-some}
use Rattle.machine.specs.Host.{text_max}
use Rattle.acceptance.specs.Consulted.{DifferInIgnored}
use Rattle.acceptance.specs.Stages.{Setting, payload_rules}
use Rattle.acceptance.proofs.Exactness.{exact}
use Rattle.prepare.specs.Prepare.{sizes_ok, prepare_rules}
use Rattle.prepare.proofs.FaithfulLaws.{prepares}
use Rattle.audit.specs.Preparing.{
  ranges_ok,
  Buffers,
  buffers_ok,
  call_rules,
  Left,
  refused_call,
  accepted_call,
  call_of,
  Acceptable,
  Answers,
}
use Rattle.audit.proofs.Calls.{call_from, call-by-outcome, sizes-told}

module _ (t : Setting) (file : List ℕ) (b : Buffers) where
  -- the sizes that `prepare` looks at are among those that the call does
  sized : buffers_ok b ≡ true → ranges_ok t.host ≡ true → sizes_ok t b.image ≡ true
  unfolding ranges_ok
  sized sizes ranges = rw (eq-eqb _ _ (sizes-told _ _ _ sizes).0, by-test (leb t.host.text_length text_max) refl)
    where
      by-test : (x : Bool) → leb t.host.text_length text_max ≡ x → leb t.host.text_length text_max ≡ true
      by-test true e = e
      by-test false e = absurd (false≢true (simp (e, and-false) at ranges))

  passed : call_rules t file b ≡ Ok tt → Acceptable t file b
  unfolding call_rules prepare_rules
  passed pass =
      let first = then-pass _ _ pass in
      let right = both _ _ (must-pass _ _ _ first.0) in
      let second = then-pass _ _ first.1 in
      record {
        buffers = right.0;
        ranges = right.1;
        listed = must-pass _ _ _ second.0;
        payload = (exact t file).accepted (then-pass (must (sizes_ok t b.image) 22 Nowhere) (payload_rules t file) second.1).1;
      }

  passing : Acceptable t file b → call_rules t file b ≡ Ok tt
  unfolding call_rules prepare_rules
  passing a = rw (a.buffers, a.ranges, a.listed, sized a.buffers a.ranges) ((exact t file).kept a.payload)

  -- no refusal's number is 0
  zero-passes : (v : Verdict) → (decide (refused_call b) (accepted_call t file) v).answer ≡ 0 → v ≡ Ok tt
  zero-passes (Ok _) e = refl
  zero-passes (Err r) e = absurd (code-some r e)

  zero-exactly : ((call_of t file b).answer ≡ 0) ↔ Acceptable t file b
  unfolding call_of
  zero-exactly = (
    λ zero. passed (zero-passes (call_rules t file b) zero),
    λ a. ap (λ (v : Verdict). (decide (refused_call b) (accepted_call t file) v).answer) (passing a),
  )

  -- the outcome of the preparation is the same, and so is the call
  same-call : (other : List ℕ) → DifferInIgnored file other → call_of t other b ≡ call_of t file b
  same-call other differ =
      call-by-outcome t b other
      ∙ ap (call_from t b) ((prepares t file b.image refl).faithful.ignored other differ)
      ∙ sym (call-by-outcome t b file)

  pub answers : {l : Left} → l ≡ call_of t file b → Answers t file b l
  answers e = subst⁻¹ (Answers t file b) e (record { equal = refl; exactly = zero-exactly; ignored = same-call })
