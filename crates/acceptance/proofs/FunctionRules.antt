-- The rules of function records: where all pass, each is kept and no two edits touch, and where one refuses, that one is broken.
use Rattle.records.specs.declared.payload.Edit.{Edit}
use Rattle.records.specs.declared.refusal.Reason.{Reason}
use Rattle.std.proofs.Common.{Ok, Err, Result, ℕ}
use Prim.Native.Nat.{ℕ, ◌<◌}
use mathlib.Core.Path.{◌≡◌, refl, sym, ◌∙◌}
use mathlib.Core.Bool.{Bool, true, false, cond, ◌&&◌, false≢true, true≢false}
use mathlib.Core.List.{List}
use lib.Dec.{eqb}
use Rattle.words.proofs.Tests.{both, either-fails}
use Rattle.records.specs.Refusal.{reason_for}
use Rattle.functions.specs.Edits.{form_ok, jump_ok, fill_ok, in_text, addresses_ok, fill_edit, jump_edit, edit_from, edit_by, edit_of}
use Rattle.functions.specs.Functions.{edit_at, edit_verdict, function_rules}
use Rattle.functions.specs.Patching.{Patching}
use Rattle.functions.specs.declared.function.FunctionRecord.{FunctionRecord}
use Rattle.acceptance.specs.Broken.Broken.{
  function_names,
  function_forms,
  function_texts,
  function_places,
  function_jumps,
  function_fills,
  function_reach,
}
use Rattle.acceptance.specs.Keeps.{KeepsFunctions}
use Rattle.acceptance.specs.Rules.{start_at, function_at, old_address_at}
use Rattle.acceptance.specs.Stages.{Setting, machine_at, placed_bytes, records_start, record_count, patching_of}
use Rattle.acceptance.proofs.PairRules.{pairs-told}
use Rattle.acceptance.proofs.Told.{by-test, Tells, passes, refuses, told-as, ◌told-then◌, told-scan}

-- a record has one old address
same_address : {o : Result ℕ Reason} {a b : ℕ} → o ≡ Ok a → o ≡ Ok b → a ≡ b
same_address h g = cc

module _ (t : Setting) (file : List ℕ) where
  abbrev p : Patching
  p = patching_of t file

  -- ---- one record

  module _ (r : ℕ) where
    abbrev f : FunctionRecord
    f = function_at t file r

    -- its version and zero bytes are right
    abbrev form : Bool
    form = form_ok (placed_bytes t file) (start_at file r) f

    -- a jump from this old address reaches its new code
    abbrev near : ℕ → Bool
    near old = (machine_at t).reaches ((machine_at t).displacement old f.new_addr)

    -- the rules of a fill and of a jump
    record Kind (old : ℕ) : Type 0 where
      filling : eqb f.new_addr 0 ≡ true → fill_ok p f ≡ true
      jumping : eqb f.new_addr 0 ≡ false → jump_ok p f ≡ true
      reaching : eqb f.new_addr 0 ≡ false → near old ≡ true

    -- the rules of record r
    record Kept : Type 0 where
      old : ℕ
      named : old_address_at t file r ≡ Ok old
      formed : form ≡ true
      in-text : in_text p old f ≡ true
      addressed : addresses_ok p old f ≡ true
      kind : Kind old

    -- what the edit, or the fault, tells of record r
    abbrev Told : Type 0 → Result Edit Reason → Type 0
    Told K e = Tells t file K (edit_verdict e r)

    module _ (below : r < record_count file) where
      module _ (old : ℕ) (named : old_address_at t file r ≡ Ok old) where
        -- by the rules of a fill, and by those of a jump
        by-fill : eqb f.new_addr 0 ≡ true → Told (Kind old) (cond (fill_ok p f) (fill_edit p old f) (Err (reason_for 22)))
        by-fill none =
            let no_jump : eqb f.new_addr 0 ≡ false → ⊥ = λ h. true≢false (sym none ∙ h) in
            by-test (Told (Kind old)) (fill_ok p f) _ _
            (λ right. passes record { filling = λ h. right; jumping = λ h. absurd (no_jump h); reaching = λ h. absurd (no_jump h) })
            (λ wrong. refuses (function_fills r below none wrong))

        by_jump : eqb f.new_addr 0 ≡ false → Told (Kind old) (cond (jump_ok p f) (jump_edit p old f) (Err (reason_for 22)))
        unfolding jump_edit
        by_jump new =
            by-test (Told (Kind old)) (jump_ok p f) _ _
            (λ right.
            by-test (Told (Kind old)) (near old) _ _
            (λ reached. passes record { filling = λ h. absurd (false≢true (sym new ∙ h)); jumping = λ h. right; reaching = λ h. reached })
            (λ far. refuses (function_reach r old below new named far)))
            (λ wrong. refuses (function_jumps r below new wrong))

        -- by the rules of both
        by_form : Told Kept (edit_from p (start_at file r) old f)
        unfolding edit_from
        by_form =
            by-test (Told Kept) (form && in_text p old f && addresses_ok p old f) _ _
            (λ right.
            let placed = both (form && in_text p old f) (addresses_ok p old f) right in
            let formed = both form (in_text p old f) placed.0 in
            told-as (λ kind. record {
              old = old;
              named = named;
              formed = formed.0;
              in-text = formed.1;
              addressed = placed.1;
              kind = kind;
            })
            (by-test (Told (Kind old)) (eqb f.new_addr 0) _ _ by-fill by_jump))
            (either-fails (form && in_text p old f) (addresses_ok p old f)
            (either-fails form (in_text p old f)
            (λ h. refuses (function_forms r below h))
            (λ h. refuses (function_texts r old below named h)))
            (λ h. refuses (function_places r old below named h)))

      -- by its old address
      by_address : (o : Result ℕ Reason) → old_address_at t file r ≡ o → Told Kept (edit_by p (start_at file r) f o)
      by_address (Ok old) same = by_form old same
      by_address (Err reason) same = refuses (function_names r reason below same)

      -- what the verdict on it tells
      told : Told Kept (edit_at p (records_start file) r)
      unfolding edit_of
      told = by_address (old_address_at t file r) refl

  -- ---- all records

  pub functions-told : Tells t file (KeepsFunctions t file) (function_rules (patching_of t file) (records_start file) (record_count file))
  unfolding function_rules
  functions-told =
      told-as
      (λ all. record {
        function_names = λ r h. ((all.0 r h).old, (all.0 r h).named);
        function_forms = λ r h. (all.0 r h).formed;
        function_texts = λ r old h e. rw (same_address e (all.0 r h).named) (all.0 r h).in-text;
        function_places = λ r old h e. rw (same_address e (all.0 r h).named) (all.0 r h).addressed;
        function_jumps = λ r h. (all.0 r h).kind.jumping;
        function_fills = λ r h. (all.0 r h).kind.filling;
        function_reach = λ r old h new e. rw (same_address e (all.0 r h).named) ((all.0 r h).kind.reaching new);
        pairs = all.1;
      })
      (told-scan (λ r. edit_verdict (edit_at p (records_start file) r) r) (record_count file) (λ r below earlier. told r below)
      told-then λ kept. pairs-told t file)
