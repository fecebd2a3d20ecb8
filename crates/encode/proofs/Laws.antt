-- Laws of the encodings: splices one after the other, the lengths of entries, and that the writes give the entry, the rows and the summary.
use Prim.Native.Nat.{ℕ, zero, suc, ◌+◌, ◌*◌, ◌-◌, ◌≤◌, ◌<◌}
use mathlib.Core.Path.{◌≡◌, refl, sym, ap, ◌∙◌}
use mathlib.Core.Bool.{Bool, true, false}
use mathlib.Core.List.{List, ◌++◌}
use native.Mathlib.Nat.{zero-add}
use native.Mathlib.Omega.{arith}
use borrow.Author.Tests.{ltb-true, lt-ltb, le-ltb}
use lib.Dec.{ltb}
use lib.ListN.{length, get_or, replicate, length-append, length-replicate, replicate-append-replicate}
use Rattle.words.specs.Splice.{splice}
use Rattle.words.specs.Number.{le_bytes}
use Rattle.words.proofs.Number.{length-le_bytes}
use Rattle.words.proofs.Splice.{splice-append, splice-splice, splice-splice-apart, length-splice, splice-whole, splice-next}
use Rattle.records.specs.Limits.{id_max, records_max}
use Rattle.records.specs.Payload.{no_edit}
use Rattle.records.specs.declared.payload.BuildId.{BuildId}
use Rattle.records.specs.declared.payload.Edit.{Edit}
use Rattle.machine.specs.Machine.{Machine, edit_bytes, edit_max}
use Rattle.encode.specs.Encode.{entry_size, edit_room, edit_entry, row_of, rows, edit_table, edits_size, summary_size, summary_of, Fitting}

-- ---- splices

-- over the beginning of the one before
splice-over :
    {A : Type 0} (s : List A) (at : ℕ) (old rest new : List A) → at + length old ≤ length s → length new ≡ length old →
    splice (splice s at (old ++ rest)) at new ≡ splice s at (new ++ rest)
splice-over s at old rest new h e =
    let fits : at ≤ length s = omega arith in
    let room : at + length old ≤ length (splice s at old) = rw (length-splice s at old h) h in
    ap (λ (l : List _). splice l at new) (sym (splice-append s at old fits rest))
    ∙ sym (splice-splice-apart (splice s at old) at (at + length old) new rest (omega arith) room)
    ∙ ap (λ (l : List _). splice l (at + length old) rest) (splice-splice s at old fits new (omega arith))
    ∙ splice-next s at (length old) new rest fits e

-- ---- an entry

module _ (m : Machine) (text : ℕ) (e : Edit) (short : length (edit_bytes m e) ≤ edit_max) where
  length-number : length (le_bytes 8 (text + e.offset) ++ le_bytes 4 e.length) ≡ 12
  length-number = simp (length-append, length-le_bytes)

  length_front : length (le_bytes 8 (text + e.offset) ++ le_bytes 4 e.length ++ edit_bytes m e) ≡ 12 + length (edit_bytes m e)
  length_front = simp (length-append, length-le_bytes)

  length-entry : length (edit_entry m text e) ≡ entry_size
  unfolding edit_entry
  length-entry = simp (length-append, length-le_bytes, length-replicate) (omega arith)

  -- zeros, then the numbers and the edit's bytes over them
  pub entry-laid :
      (s : List ℕ) (at : ℕ) → at + entry_size ≤ length s →
      splice
      (splice (splice (splice s at (replicate entry_size 0)) at (le_bytes 8 (text + e.offset))) (at + 8) (le_bytes 4 e.length))
      (at + 12)
      (edit_bytes m e) ≡ splice s at (edit_entry m text e)
  unfolding edit_entry
  entry-laid s at room =
      let zeros = splice s at (replicate entry_size 0) in
      let fits : at ≤ length zeros = rw (length-splice s at (replicate entry_size 0) room) (omega arith) in
      let n = length (edit_bytes m e) in
      let k : entry_size ≡ 12 + n + (edit_room - n) = omega arith in
      let old : List ℕ = replicate (12 + n) 0 in
      let length-old : length old ≡ 12 + n = length-replicate {A = ℕ} (12 + n) 0 in
      let new = le_bytes 8 (text + e.offset) ++ le_bytes 4 e.length ++ edit_bytes m e in
      let split : replicate entry_size 0 ≡ old ++ replicate (edit_room - n) 0 =
      ap (λ (i : ℕ). replicate {A = ℕ} i 0) k ∙ sym (replicate-append-replicate {A = ℕ} (12 + n) (edit_room - n) 0) in
      rw (
        splice-next zeros at 8 (le_bytes 8 (text + e.offset)) (le_bytes 4 e.length) fits (length-le_bytes 8 (text + e.offset)),
        splice-next zeros at 12 (le_bytes 8 (text + e.offset) ++ le_bytes 4 e.length) (edit_bytes m e) fits length-number,
      )
      (ap (λ (l : List ℕ). splice (splice s at l) at new) split
      ∙ splice-over s at old (replicate (edit_room - n) 0) new (omega arith) (length_front ∙ sym length-old))

-- ---- all entries

module _ {m : Machine} {text : ℕ} {es : List Edit} {n : ℕ} (fitting : Fitting m text es n) where
  length-row-by : (r : ℕ) (b : Bool) → ltb r n ≡ b → length (row_of m text es n r) ≡ entry_size
  unfolding row_of
  length-row-by r true e = rw e (length-entry m text (get_or es r no_edit) (fitting.short r (ltb-true r n e)))
  length-row-by r false e = rw e (length-replicate {A = ℕ} entry_size 0)

  pub length-row : (r : ℕ) → length (row_of m text es n r) ≡ entry_size
  length-row r = length-row-by r (ltb r n) refl

  length-rows : (k : ℕ) → length (rows m text es n k) ≡ entry_size * k
  unfolding rows
  length-rows zero = refl
  length-rows (suc k) = simp (length-append, length-row k, length-rows k) (omega arith)

  -- the entry of an edit, and zeros behind the last
  pub row-edit : (r : ℕ) → r < n → row_of m text es n r ≡ edit_entry m text (get_or es r no_edit)
  unfolding row_of
  row-edit r h = rw (lt-ltb r n h)

  pub row-none : (r : ℕ) → n ≤ r → row_of m text es n r ≡ replicate entry_size 0
  unfolding row_of
  row-none r h = rw (le-ltb r n h)

  -- one entry more
  pub row_laid :
      (s : List ℕ) (k : ℕ) →
      splice (splice s 0 (rows m text es n k)) (entry_size * k) (row_of m text es n k) ≡ splice s 0 (rows m text es n (suc k))
  unfolding rows
  row_laid s k = rw zero-add at (splice-next s 0 (entry_size * k) (rows m text es n k) (row_of m text es n k) (omega arith) (length-rows k))

  -- all of them
  pub all_laid : (s : List ℕ) → length s ≡ edits_size → splice s 0 (edit_table m text es n) ≡ edit_table m text es n
  all_laid s e = splice-whole s (edit_table m text es n) (length-rows records_max ∙ sym e)

-- ---- the summary

-- its six parts, one behind the other
pub summary-laid :
    (s : List ℕ) (placed count : ℕ) (id dependency : BuildId) → length s ≡ summary_size → length id.bytes ≡ id_max →
    length dependency.bytes ≡ id_max →
    splice
    (splice
    (splice (splice (splice (splice s 0 (le_bytes 4 placed)) 4 (le_bytes 4 count)) 8 (le_bytes 4 id.length)) 12 (le_bytes 4 dependency.length))
    16
    id.bytes)
    (16 + id_max)
    dependency.bytes ≡ summary_of placed count id dependency
unfolding summary_of
summary-laid s placed count id dependency all e f =
    let a = le_bytes 4 placed in
    let b = le_bytes 4 count in
    let c = le_bytes 4 id.length in
    let d = le_bytes 4 dependency.length in
    let start : 0 ≤ length s = omega arith in
    rw (
      splice-next s 0 4 a b start (length-le_bytes 4 placed),
      splice-next s 0 8 (a ++ b) c start (simp (length-append, length-le_bytes)),
      splice-next s 0 12 (a ++ b ++ c) d start (simp (length-append, length-le_bytes)),
      splice-next s 0 16 (a ++ b ++ c ++ d) id.bytes start (simp (length-append, length-le_bytes)),
      splice-next s 0 (16 + id_max) (a ++ b ++ c ++ d ++ id.bytes) dependency.bytes start (simp (length-append, length-le_bytes, e)),
    )
    (splice-whole s (a ++ b ++ c ++ d ++ id.bytes ++ dependency.bytes) (simp (length-append, length-le_bytes, e, f) (sym all)))
