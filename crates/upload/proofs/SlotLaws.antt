-- A payload prepared in its slot of the arena: the slot's bytes are replaced, or the arena is as it was.
use Rattle.records.specs.Refusal.{Verdict}
use Rattle.std.proofs.Common.{Ok, Err}
use Prim.Native.Nat.{ℕ, ◌+◌, ◌-◌, ◌≤◌, ◌<◌}
use mathlib.Core.Path.{◌≡◌, refl, ap, ◌∙◌}
use mathlib.Core.Bool.{true}
use mathlib.Core.List.{List, ◌++◌, append_assoc}
use native.Mathlib.Nat.{add-sub_cancel_left}
use native.Mathlib.Omega.{arith}
use borrow.Author.Tests.{eq-eqb, le-leb}
use lib.ListN.{length, take, drop, length-take, length-drop, take-append-drop}
use lib.Seq.{drop-drop}
use Rattle.words.specs.Splice.{splice}
use Rattle.records.specs.Limits.{placed_max}
use Rattle.records.specs.Verdict.{decide, verdict_of}
use Rattle.records.specs.declared.refusal.Refusal.{Refusal}
use Rattle.records.proofs.Checks.{Told, then-pass, rules-told, answer-told}
use Rattle.machine.specs.Host.{text_max}
use Rattle.machine.specs.declared.host.Host.{Host}
use Rattle.memory.specs.Memory.{slot_count, slot_at, arena_size}
use Rattle.payload.specs.Reading.{read_rules}
use Rattle.acceptance.specs.Stages.{Setting, setting, machine_at, relocated_of, build_rules, payload_rules}
use Rattle.prepare.specs.Prepare.{Outcome, outcome, sizes_ok, accepted_prepared, prepare_of}
use Rattle.prepare.proofs.BuildLaws.{length-built}
use Rattle.prepare.proofs.OutcomeLaws.{outcome_by, prepared-by}
use Rattle.upload.specs.Upload.{prepared_in}

-- ---- n elements of a list from at on, lent and put back

module _ {A : Type 0} (s : List A) (at n : ℕ) where
  abbrev lent_part : List A
  lent_part = take (at + n - at) (drop at s)

  abbrev put_back : List A → List A
  put_back new = take at s ++ (new ++ drop (at + n - at) (drop at s))

  -- as they were
  put_same : put_back lent_part ≡ s
  put_same = rw (take-append-drop, take-append-drop)

  -- replaced
  put-new : (new : List A) → length new ≡ n → put_back new ≡ splice s at new
  unfolding splice
  put-new new e = rw (add-sub_cancel_left, drop-drop, ← e, append_assoc)

-- ---- the outcome that a verdict decides, with all of the arena

module _ (t : Setting) (arena : List ℕ) (slot : ℕ) (file : List ℕ) where
  abbrev refused_in : Refusal → Outcome
  refused_in r = outcome (Err r) arena

  abbrev accepted_in : Outcome
  accepted_in = outcome (Ok (accepted_prepared t file)) (splice arena (slot_at slot) (relocated_of t file).image)

  abbrev pub outcome_in : Verdict → Outcome
  outcome_in = decide refused_in accepted_in

  told : Told (λ o. verdict_of o.answer) refused_in accepted_in
  told = record { refusing = λ r. refl; accepting = refl }

  module _ {o : Outcome} (answer : o ≡ prepared_in t arena slot file) where
    pub payload-told : {v : Verdict} → verdict_of o.answer ≡ v → payload_rules t file ≡ v
    unfolding prepared_in
    payload-told h = rules-told _ _ _ told _ _ answer h

    pub outcome-is : {v : Verdict} → verdict_of o.answer ≡ v → o ≡ outcome_in v
    unfolding prepared_in
    outcome-is h = answer-told _ _ _ told (payload_rules t file) _ answer h

-- ---- the slot's part of the arena

module _
    (t : Setting) (file arena : List ℕ) (slot : ℕ) (whole : length arena ≡ arena_size) (below : slot < slot_count)
    (short : t.host.text_length ≤ text_max) where
  abbrev bytes : List ℕ
  bytes = lent_part arena (slot_at slot) placed_max

  sized : sizes_ok t bytes ≡ true
  sized =
      let long : length bytes ≡ placed_max = simp (length-take, length-drop) (omega arith) in
      rw (eq-eqb _ _ long, le-leb _ _ short)

  -- an outcome with the slot's bytes, with all of the arena
  abbrev in_arena : Outcome → Outcome
  in_arena o = outcome o.answer (put_back arena (slot_at slot) placed_max o.image)

  by-verdict :
      (v : Verdict) → payload_rules t file ≡ v → in_arena (outcome_by t file bytes v) ≡ outcome_in t arena slot file v
  by-verdict (Ok _) e =
      let stages = then-pass (read_rules (machine_at t) file) (build_rules t file) e in
      rw (put-new arena (slot_at slot) placed_max (relocated_of t file).image (length-built t file stages.0 stages.1))
  by-verdict (Err r) e = rw (put_same arena (slot_at slot) placed_max)

  pub prepared-in :
      {host : Host} {o : Outcome} → host ≡ t.host → o ≡ prepare_of (setting host t.list) file bytes → in_arena o ≡ prepared_in t arena slot file
  unfolding prepared_in
  prepared-in same e =
      ap in_arena (e ∙ ap (λ (h : Host). prepare_of (setting h t.list) file bytes) same ∙ prepared-by t file bytes sized refl refl)
      ∙ by-verdict (payload_rules t file) refl
