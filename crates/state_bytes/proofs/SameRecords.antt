-- An edit and a payload, read and stored again: the bytes are those that they were read from exactly where each edit is a jump, or
-- no-ops, which have no displacement.
use Prim.Native.Nat.{ℕ, zero, suc, ◌+◌, ◌*◌, ◌≤◌}
use mathlib.Core.Path.{◌≡◌, refl, ◌∙◌}
use mathlib.Core.Bool.{Bool, true, false, cond, ◌&&◌, and-true}
use mathlib.Core.List.{List, map}
use native.Mathlib.Nat.{add-zero}
use native.Mathlib.Omega.{arith}
use borrow.Author.Tests.{eqb-true, ne_eqb}
use lib.Dec.{eqb}
use lib.ListN.{length}
use Rattle.words.specs.Number.{le_at, le_bytes}
use Rattle.words.specs.Order.{equal}
use Rattle.words.specs.Splice.{part}
use Rattle.words.proofs.Number.{length-le_bytes}
use Rattle.words.proofs.Order.{equal-same}
use Rattle.words.proofs.Splice.{length_part}
use Rattle.records.specs.Limits.{name_max, id_max, records_max}
use Rattle.state_bytes.specs.Fields.{chained}
use Rattle.state_bytes.specs.Flags.{kind_ok, edits_ok}
use Rattle.state_bytes.specs.Layout.{edit_size, dependency_place, edit_count_place, edits_place, payload_size}
use Rattle.state_bytes.specs.Stored.{kind_number, displacement_of, kind_from, edit_fields, stored_edit, edit_at, edits_at, payload_fields, payload_bytes, payload_at}
use Rattle.state_bytes.proofs.Fields.{length-joined}
use Rattle.state_bytes.proofs.Readers.{edit_widths, edit-widths, length-edit, payload_widths}
use Rattle.state_bytes.proofs.Same.{Bytes, kept, number_same, fields-same, length-rows, rows_same}

-- no-ops stored again
fill-same : (n d : ℕ) → (eqb 0 n && eqb 0 d) ≡ cond (eqb n 0) (eqb d 0) false
fill-same zero zero = refl
fill-same zero (suc d) = simp (ne_eqb 0 (suc d) (λ e. omega arith), ne_eqb (suc d) 0 (λ e. omega arith))
fill-same (suc n) d = simp (ne_eqb 0 (suc n) (λ e. omega arith), ne_eqb (suc n) 0 (λ e. omega arith))

module _ (b : List ℕ) (known : Bytes b) where
  -- ---- an edit

  module _ (at : ℕ) (within : at + edit_size ≤ length b) where
    kind-same :
        let kind = kind_from (le_at 4 b (at + 8)) (le_at 8 b (at + 12)) in
        (equal (le_bytes 4 (kind_number kind)) (part b (at + 8) 4) && equal (le_bytes 8 (displacement_of kind)) (part b (at + 12) 8))
        ≡ kind_ok b at
    unfolding kind_ok
    kind-same = by_cases (eqb (le_at 4 b (at + 8)) 1) refl
      where
        by_cases :
            (t : Bool) → eqb (le_at 4 b (at + 8)) 1 ≡ t →
            let kind = kind_from (le_at 4 b (at + 8)) (le_at 8 b (at + 12)) in
            (equal (le_bytes 4 (kind_number kind)) (part b (at + 8) 4) && equal (le_bytes 8 (displacement_of kind)) (part b (at + 12) 8))
            ≡ cond (eqb (le_at 4 b (at + 8)) 0) (eqb (le_at 8 b (at + 12)) 0) (eqb (le_at 4 b (at + 8)) 1)
        by_cases true e =
            let one : le_at 4 b (at + 8) ≡ 1 = eqb-true (le_at 4 b (at + 8)) 1 e in
            let number : equal (le_bytes 4 1) (part b (at + 8) 4) ≡ true = rw one at (kept b known 4 (at + 8) (omega arith)) in
            simp (e, number, kept b known 8 (at + 12) (omega arith), ne_eqb (le_at 4 b (at + 8)) 0 (λ z. omega arith))
        by_cases false e =
            rw (
              e,
              number_same b known 4 (at + 8) 0 (omega arith) (omega arith),
              number_same b known 8 (at + 12) 0 (omega arith) (omega arith),
            )
            (fill-same (le_at 4 b (at + 8)) (le_at 8 b (at + 12)))

    edit-same : equal (stored_edit (edit_at b at)) (part b at edit_size) ≡ kind_ok b at
    unfolding stored_edit edit_at
    edit-same =
        fields-same b at (edit_fields (edit_at b at)) edit_widths (edit-widths (edit_at b at)) (omega arith)
        ∙ rw (add-zero at, kept b known 4 at (omega arith), kept b known 4 (at + 4) (omega arith), and-true) kind-same

  -- the edits from this place on
  edits-same :
      (at : ℕ) → at + edit_size * records_max ≤ length b →
      equal (chained (map stored_edit (edits_at b at))) (part b at (edit_size * records_max)) ≡ edits_ok b at
  unfolding edits_ok
  edits-same at within =
      rows_same edit_at stored_edit edit_size b at (λ j. kind_ok b (at + edit_size * j)) records_max
      (λ j h.
      record {
        within = omega arith;
        wide = length-edit _;
        same = edit-same (at + edit_size * j) (omega arith);
      })

  -- ---- a payload

  module _ (at : ℕ) (within : at + payload_size ≤ length b) where
    payload-widths : map length (payload_fields (payload_at b at)) ≡ payload_widths
    unfolding payload_at
    payload-widths =
        simp (
          length-le_bytes,
          length_part b at name_max (omega arith),
          length_part b (at + dependency_place) id_max (omega arith),
          length-rows edit_at stored_edit edit_size b (at + edits_place) records_max (λ j h. length-edit _),
        )

    pub length-payload : length (payload_bytes (payload_at b at)) ≡ payload_size
    unfolding payload_bytes
    length-payload = length-joined (payload_fields (payload_at b at)) payload_widths payload-widths

    pub payload_same : equal (payload_bytes (payload_at b at)) (part b at payload_size) ≡ edits_ok b (at + edits_place)
    unfolding payload_bytes payload_at
    payload_same =
        fields-same b at (payload_fields (payload_at b at)) payload_widths payload-widths (omega arith)
        ∙ rw (
          add-zero at,
          equal-same (part b at name_max),
          kept b known 4 (at + name_max) (omega arith),
          kept b known 4 (at + (name_max + 4)) (omega arith),
          kept b known 4 (at + (name_max + 8)) (omega arith),
          kept b known 4 (at + (name_max + 12)) (omega arith),
          kept b known 4 (at + (name_max + 16)) (omega arith),
          kept b known 4 (at + (name_max + 20)) (omega arith),
          equal-same (part b (at + dependency_place) id_max),
          kept b known 4 (at + edit_count_place) (omega arith),
          edits-same (at + edits_place) (omega arith),
          and-true,
        )
