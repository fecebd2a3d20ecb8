-- The rule of pairs: where it passes, no two edits touch, and where it refuses, a record touches an earlier one, and no two before it touch.
use Rattle.std.proofs.Common.{Ok, Err}
use Prim.Native.Nat.{ℕ, zero, suc, ◌<◌}
use mathlib.Core.Path.{◌≡◌, refl, sym, ◌∙◌}
use mathlib.Core.Bool.{Bool, true, false, cond, ◌||◌, false≢true, true≢false}
use mathlib.Core.Logic.{⊎_elim}
use mathlib.Core.List.{List}
use native.Mathlib.Omega.{arith}
use Rattle.words.specs.Scan.{scan}
use Rattle.words.proofs.Scan.{searched}
use Rattle.records.specs.Refusal.{reason_for, Verdict}
use Rattle.records.specs.Verdict.{refusal}
use Rattle.records.specs.declared.payload.Edit.{Edit}
use Rattle.records.specs.declared.refusal.Place.TheVariants.{Record}
use Rattle.functions.specs.Functions.{edits_of}
use Rattle.functions.specs.Pairs.{edit_in, touch, touched, pair_rules}
use Rattle.acceptance.specs.Broken.Broken.{pairs}
use Rattle.acceptance.specs.Rules.{edit_for}
use Rattle.acceptance.specs.Stages.{Setting, records_start, record_count, patching_of}
use Rattle.acceptance.proofs.Told.{Tells, passes, refuses}

-- whether one of some numbers passes a test, as a search for it
or-search : (test : ℕ → Bool) (i k : ℕ) → scan (λ j rest. test j || rest) false i k ≡ scan (λ j rest. cond (test j) true rest) false i k
unfolding scan
or-search test i zero = refl
or-search test i (suc k) = rw (or-search test (suc i) k) (by_cases (test i) _)
  where
    by_cases : (a b : Bool) → (a || b) ≡ cond a true b
    by_cases true b = refl
    by_cases false b = refl

-- what it means that an edit touches one of the first n, and that it touches none
module _ (es : List Edit) where
  touch-found : (b : Edit) (n : ℕ) → touched es b n ≡ true → (i : ℕ) × (i < n) × (touch (edit_in es i) b ≡ true)
  touch-found b n e =
      ⊎_elim
      (λ hit. (hit.0, omega (arith, hit.1.high), hit.1.holds))
      (λ miss. absurd (false≢true (sym miss.1 ∙ sym (or-search (λ i. touch (edit_in es i) b) 0 n) ∙ e)))
      (searched (λ i. touch (edit_in es i) b) (λ i. true) false 0 n)

  none_found : (b : Edit) (n : ℕ) → touched es b n ≡ false → (i : ℕ) → i < n → touch (edit_in es i) b ≡ false
  none_found b n e i h =
      ⊎_elim
      (λ hit. absurd (true≢false (sym hit.2 ∙ sym (or-search (λ i. touch (edit_in es i) b) 0 n) ∙ e)))
      (λ miss. miss.0 i (omega arith) (omega arith))
      (searched (λ i. touch (edit_in es i) b) (λ i. true) false 0 n)

module _ (t : Setting) (file : List ℕ) where
  abbrev edits : List Edit
  edits = edits_of (patching_of t file) (records_start file) (record_count file)

  -- record j touches an earlier one
  abbrev touches-earlier : ℕ → Bool
  touches-earlier j = touched edits (edit_in edits j) j

  -- a record that touches no earlier one
  apart : (j : ℕ) → touches-earlier j ≡ false → (i : ℕ) → i < j → touch (edit_for t file i) (edit_for t file j) ≡ false
  apart j none = none_found edits (edit_in edits j) j none

  -- what the search answers where record j does, and where none does
  abbrev touched-at : ℕ → Verdict
  touched-at j = Err (refusal (reason_for 22) (Record j))

  abbrev none-touches : Verdict
  none-touches = Ok tt

  pub pairs-told :
      Tells t file
      ((i j : ℕ) → i < j → j < record_count file → touch (edit_for t file i) (edit_for t file j) ≡ false)
      (pair_rules edits (record_count file))
  unfolding pair_rules
  pairs-told =
      ⊎_elim
      (λ hit.
      let later = hit.0 in
      let pair = touch-found edits (edit_in edits later) later hit.1.holds in
      let below : later < record_count file = omega (arith, hit.1.high) in
      rw hit.2
      (refuses
      (pairs pair.0 later pair.1 below (λ a b earlier before. apart b (hit.1.before b (omega arith) before) a earlier) pair.2)))
      (λ miss. rw miss.1 (passes λ i j earlier below. apart j (miss.0 j (omega arith) (omega arith)) i earlier))
      (searched touches-earlier touched-at none-touches 0 (record_count file))
