-- Every edit that a record becomes lies in the text and has as many bytes as it says.
use Rattle.std.proofs.Common.{Ok, Err, Result, ℕ}
use Prim.Native.Nat.{ℕ, ◌+◌, ◌-◌, ◌≤◌, ◌<◌, ◌^◌}
use mathlib.Core.Path.{◌≡◌, refl}
use mathlib.Core.Bool.{Bool, true, false, cond, ◌&&◌}
use native.Mathlib.Omega.{arith}
use lib.Dec.{eqb}
use lib.ListN.{length, get_or}
use Rattle.words.proofs.Scan.{get_or-filled}
use Rattle.words.proofs.Tests.{both}
use Rattle.records.specs.Limits.{records_max}
use Rattle.records.specs.Payload.{no_edit}
use Rattle.records.specs.Refusal.{reason_for}
use Rattle.records.specs.declared.payload.Edit.{Edit}
use Rattle.records.specs.declared.payload.EditKind.TheVariants.{Jump, Fill}
use Rattle.records.specs.declared.refusal.Reason.{Reason}
use Rattle.records.proofs.Checks.{then-pass, scan-passes}
use Rattle.machine.specs.Machine.{edit_bytes, edit_max}
use Rattle.machine.proofs.Laws.{lawful, length-edit}
use Rattle.functions.specs.Edits.{form_ok, in_text, addresses_ok, fill_ok, jump_ok, fill_edit, jump_edit, edit_from, edit_by, edit_of}
use Rattle.functions.specs.Functions.{edit_at, edit_verdict, made_of, edits_of, function_rules}
use Rattle.functions.specs.Patching.{Patching, machine_for}
use Rattle.functions.specs.Records.{record_of, old_address_of}
use Rattle.functions.specs.declared.function.FunctionRecord.{FunctionRecord}
use Rattle.functions.proofs.RecordLaws.{lies, fill_holds, jump-holds}

-- ---- an edit that is made

-- it lies in the text, and has as many bytes as it says: at least one, and no more than the longest edit
pub record Made (p : Patching) (e : Edit) : Type 0 where
  pub inside : e.offset + e.length ≤ p.host.text_length
  pub some : 1 ≤ e.length
  pub short : e.length ≤ edit_max
  pub sized : length (edit_bytes (machine_for p) e) ≡ e.length

-- a test that had to hold
passed : {e : Edit} (t : Bool) (x : Result Edit Reason) (reason : Reason) → cond t x (Err reason) ≡ Ok e → (t ≡ true) × (x ≡ Ok e)
passed true x reason h = (refl, h)
passed false x reason h = let never : ◌≡◌ {A = ℕ} 0 1 = cc in absurd (omega arith)

module _ (p : Patching) (at : ℕ) {e : Edit} where
  module _ (old : ℕ) (f : FunctionRecord) (h : in_text p old f ≡ true) where
    -- a fill, and a jump
    fill-made : fill_ok p f ≡ true → fill_edit p old f ≡ Ok e → Made p e
    fill-made g made =
        let fill : Edit = record { offset = old - p.host.text; length = f.new_size; kind = Fill } in
        let same : fill ≡ e = cc in
        let room = lies p.host.text p.host.text_length old f.old_size h in
        let size = fill_holds p f g in
        rw (← same) record {
          inside = omega arith;
          some = size.0;
          short = size.1;
          sized = (length-edit (lawful p.host.processor) fill).1 refl;
        }

    jump-made : jump_ok p f ≡ true → jump_edit p old f ≡ Ok e → Made p e
    unfolding jump_edit
    jump-made g made =
        let laws = lawful p.host.processor in
        let d = (machine_for p).displacement old f.new_addr in
        let jump : Edit = record { offset = old - p.host.text; length = (machine_for p).jump_length; kind = Jump d } in
        let reached = (passed ((machine_for p).reaches d) (Ok jump) (reason_for 34) made).1 in
        let same : jump ≡ e = cc in
        let room = lies p.host.text p.host.text_length old f.old_size h in
        let size = jump-holds p f g in
        rw (← same) record {
          inside = omega arith;
          some = laws.jump_some;
          short = laws.jump_max;
          sized = (length-edit laws jump).0 d refl;
        }

    -- either
    kind-made :
        (fill : Bool) →
        cond fill
        (cond (fill_ok p f) (fill_edit p old f) (Err (reason_for 22)))
        (cond (jump_ok p f) (jump_edit p old f) (Err (reason_for 22)))
        ≡ Ok e →
        Made p e
    kind-made true made = let t = passed (fill_ok p f) _ _ made in fill-made t.0 t.1
    kind-made false made = let t = passed (jump_ok p f) _ _ made in jump-made t.0 t.1

  -- with the old address known, or none
  address-made : (f : FunctionRecord) (o : Result ℕ Reason) → edit_by p at f o ≡ Ok e → Made p e
  unfolding edit_from
  address-made f (Ok old) made =
      let form = form_ok p.placed at f in
      let t = passed (form && in_text p old f && addresses_ok p old f) _ _ made in
      let inside = (both form (in_text p old f) (both (form && in_text p old f) (addresses_ok p old f) t.0).0).1 in
      kind-made old f inside (eqb f.new_addr 0) t.1
  address-made f (Err reason) made = let never : ◌≡◌ {A = ℕ} 0 1 = cc in absurd (omega arith)

  -- of the record at at
  pub edit-made : edit_of p at ≡ Ok e → Made p e
  unfolding edit_of
  edit-made made = address-made (record_of p.placed at) (old_address_of p (record_of p.placed at)) made

module _ {p : Patching} {e : Edit} (made : Made p e) where
  -- so its bytes are no more than the longest edit has
  pub bytes-short : length (edit_bytes (machine_for p) e) ≤ edit_max
  bytes-short = rw made.sized made.short

  -- and its address is a 64-bit number, where the text ends at 2^64 or before
  pub edit-addressed : p.host.text + p.host.text_length ≤ 2 ^ 64 → p.host.text + e.offset < 2 ^ 64
  edit-addressed ends = omega (arith, made.inside, made.some)

-- ---- the edits of records that pass

-- a record that passes has become an edit
is_made : (e : Result Edit Reason) (r : ℕ) → edit_verdict e r ≡ Ok tt → e ≡ Ok (made_of e)
is_made (Ok e) r h = refl
is_made (Err reason) r h = let never : ◌≡◌ {A = ℕ} 0 1 = cc in absurd (omega arith)

module _ (p : Patching) (start n : ℕ) where
  pub edits-made : function_rules p start n ≡ Ok tt → (r : ℕ) → r < n → Made p (get_or (edits_of p start n) r no_edit)
  unfolding function_rules
  edits-made h r g =
      let each = scan-passes (λ j. edit_verdict (edit_at p start j) j) 0 n (then-pass _ _ h).0 r (omega arith) (omega arith) in
      rw (get_or-filled (λ j. made_of (edit_at p start j)) no_edit records_max n r no_edit g) (edit-made p _ (is_made (edit_at p start r) r each))
