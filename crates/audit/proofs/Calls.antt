-- `prepare_payload` by what its stages answered, and that the edits of an accepted payload fit their entries.
use Rattle.records.specs.Refusal.{Verdict}
use Rattle.std.proofs.Common.{Result, Ok, Err}
use Prim.Native.Nat.{ℕ, ◌+◌, ◌≤◌, ◌<◌, ◌^◌}
use mathlib.Core.Path.{◌≡◌, refl, ◌∙◌}
use mathlib.Core.Bool.{Bool, true, false, ◌&&◌, and-false, false≢true}
use mathlib.Core.List.{List}
use native.Mathlib.Omega.{arith}
use borrow.Author.Tests.{leb-true, eqb-true}
use lib.Dec.{leb, eqb}
use lib.ListN.{get_or}
use Rattle.words.proofs.Tests.{both}
use Rattle.records.specs.Limits.{records_max, placed_max}
use Rattle.records.specs.Payload.{no_edit}
use Rattle.records.specs.Verdict.{refusal, must, ◌then◌, decide, verdict_of}
use Rattle.records.specs.declared.refusal.Reason.TheVariants.{Invalid}
use Rattle.records.specs.declared.refusal.Place.TheVariants.{Nowhere}
use Rattle.records.specs.declared.refusal.Refusal.{Refusal}
use Rattle.records.proofs.Checks.{then-pass, rules-told, answer-told}
use Rattle.machine.specs.declared.host.Host.{Host}
use Rattle.symbols.specs.SymbolList.{valid}
use Rattle.payload.specs.Reading.{read_rules}
use Rattle.payload.proofs.ReadingLaws.{read-passes}
use Rattle.functions.proofs.FunctionLaws.{Made, edits-made, bytes-short, edit-addressed}
use Rattle.encode.specs.Encode.{Fitting, edit_table, edits_size, summary_of, summary_size}
use Rattle.acceptance.specs.Stages.{Setting, machine_at, records_start, record_count, patching_of, build_rules}
use Rattle.prepare.specs.Prepare.{Outcome, sizes_ok, prepare_rules, accepted_prepared, prepare_of}
use Rattle.prepare.specs.declared.prepare.Prepared.{Prepared}
use Rattle.prepare.proofs.BuildLaws.{build-passes}
use Rattle.prepare.proofs.OutcomeLaws.{outcome_by, outcome-told}
use Rattle.audit.specs.Preparing.{
  ranges_ok,
  Buffers,
  buffers,
  buffer_sizes_ok,
  buffers_ok,
  call_rules,
  Left,
  left,
  refused_call,
  accepted_call,
  call_of,
}

-- ---- the call, stage by stage

-- sizes and ranges
abbrev pub right_call : Setting → Buffers → Bool
right_call t b = buffers_ok b && ranges_ok t.host

-- what an accepted payload leaves, of what was prepared of it and the slot's bytes
abbrev pub written_of : Setting → Prepared → List ℕ → Left
written_of t p image =
    left 0
    (buffers image (edit_table (machine_at t) t.host.text p.edits p.edit_count)
    (summary_of p.placed p.edit_count p.id p.dependency))

-- what is left, of the outcome of the preparation
abbrev pub left_by : Setting → Buffers → Result Prepared Refusal → List ℕ → Left
left_by t b (Ok p) image = written_of t p image
left_by t b (Err r) image = refused_call b r

module _ (t : Setting) (b : Buffers) where
  -- the call, where the preparation has this outcome
  abbrev pub call_from : Outcome → Left
  call_from o =
      decide (refused_call b) (left_by t b o.answer o.image) (must (right_call t b) 22 Nowhere then must (valid t.list) 22 Nowhere)

  -- it looks at the file through the preparation alone
  pub call-by-outcome : (file : List ℕ) → call_of t file b ≡ call_from (prepare_of t file b.image)
  unfolding call_of call_rules prepare_of
  call-by-outcome file = by-verdict (right_call t b) (valid t.list) (prepare_rules t file b.image)
    where
      by-verdict :
          (right listed : Bool) (v : Verdict) →
          decide (refused_call b) (accepted_call t file) (must right 22 Nowhere then must listed 22 Nowhere then v)
          ≡ decide (refused_call b) (left_by t b (outcome_by t file b.image v).answer (outcome_by t file b.image v).image)
          (must right 22 Nowhere then must listed 22 Nowhere)
      by-verdict false listed v = refl
      by-verdict true false v = refl
      by-verdict true true (Ok _) = refl
      by-verdict true true (Err r) = refl

  module _ (file : List ℕ) where
    pub wrong-call : right_call t b ≡ false → call_of t file b ≡ refused_call b (refusal Invalid Nowhere)
    unfolding call_of call_rules
    wrong-call e = rw e

    pub wrong-list : right_call t b ≡ true → valid t.list ≡ false → call_of t file b ≡ refused_call b (refusal Invalid Nowhere)
    unfolding call_of call_rules
    wrong-list right e = rw (right, e)

    -- sizes, ranges and list are right: the payload decides
    module _ (right : right_call t b ≡ true) (listed : valid t.list ≡ true) {o : Outcome} (prepared : o ≡ prepare_of t file b.image) where
      pub by-payload : call_of t file b ≡ left_by t b o.answer o.image
      by-payload = call-by-outcome file ∙ rw (← prepared, right, listed)

-- ---- the preparation has this outcome

module _ (t : Setting) (file image : List ℕ) {o : Outcome} (e : o ≡ prepare_of t file image) where
  pub prepare-rules : {v : Verdict} → verdict_of o.answer ≡ v → prepare_rules t file image ≡ v
  unfolding prepare_of
  prepare-rules h = rules-told _ _ _ (outcome-told t file image) _ _ e h

  pub outcome-is : {v : Verdict} → verdict_of o.answer ≡ v → o ≡ outcome_by t file image v
  unfolding prepare_of
  outcome-is h = answer-told _ _ _ (outcome-told t file image) (prepare_rules t file image) _ e h

-- ---- the edits of an accepted payload

module _ (t : Setting) (file image : List ℕ) (pass : prepare_rules t file image ≡ Ok tt) where
  stages : (read_rules (machine_at t) file ≡ Ok tt) × (build_rules t file ≡ Ok tt)
  unfolding prepare_rules
  stages = then-pass (read_rules (machine_at t) file) (build_rules t file) (then-pass (must (sizes_ok t image) 22 Nowhere) _ pass).1

  pub few-records : record_count file ≤ records_max
  few-records = omega (arith, (read-passes file (machine_at t) stages.0).records-most)

  pub fitting :
      t.host.text + t.host.text_length ≤ 2 ^ 64 →
      Fitting (machine_at t) t.host.text (accepted_prepared t file).edits (record_count file)
  fitting ends = record { addressed = λ r h. edit-addressed (made r h) ends; short = λ r h. bytes-short (made r h) }
    where
      made : (r : ℕ) → r < record_count file → Made (patching_of t file) (get_or (accepted_prepared t file).edits r no_edit)
      made r h = edits-made (patching_of t file) (records_start file) (record_count file) (build-passes t file stages.1).of-functions r h

-- ---- what the tests of sizes and ranges tell

-- the text ends at 2^64 or before
pub text-ends : (host : Host) → ranges_ok host ≡ true → host.text + host.text_length ≤ 2 ^ 64
unfolding ranges_ok
text-ends host h = by-test (leb (host.text + host.text_length) (2 ^ 64)) refl
  where
    by-test : (b : Bool) → leb (host.text + host.text_length) (2 ^ 64) ≡ b → host.text + host.text_length ≤ 2 ^ 64
    by-test true e = leb-true _ _ e
    by-test false e = absurd (false≢true (simp (e, and-false) at h))

pub sizes-told :
    (image edits summary : ℕ) → buffer_sizes_ok image edits summary ≡ true →
    (image ≡ placed_max) × (edits ≡ edits_size) × (summary ≡ summary_size)
unfolding buffer_sizes_ok
sizes-told image edits summary h =
    let all = both (eqb image placed_max && eqb edits edits_size) (eqb summary summary_size) h in
    let front = both (eqb image placed_max) (eqb edits edits_size) all.0 in
    (eqb-true _ _ front.0, eqb-true _ _ front.1, eqb-true _ _ all.1)

-- what is left, part by part
pub left-same :
    {a b : ℕ} {i j e f s u : List ℕ} → a ≡ b → i ≡ j → e ≡ f → s ≡ u → left a (buffers i e s) ≡ left b (buffers j f u)
left-same p q v w = rw (p, q, v, w)
