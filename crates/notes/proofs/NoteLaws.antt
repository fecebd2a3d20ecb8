-- Notes: the test and the id by a head that was read, how long a note is, and which notes pass.
use Rattle.records.specs.Refusal.{Verdict}
use Rattle.std.proofs.Common.{Ok}
use Prim.Native.Nat.{ℕ, ◌+◌, ◌-◌, ◌≤◌, ◌<◌}
use mathlib.Core.Path.{◌≡◌, sym, ap}
use mathlib.Core.Bool.{Bool, true, cond, ◌&&◌}
use mathlib.Core.List.{List}
use native.Mathlib.Omega.{arith}
use borrow.Author.Tests.{leb-true, eqb-true}
use lib.Dec.{leb, eqb}
use lib.ListN.{length, take, drop, replicate, length-drop}
use lib.Seq.{take-length}
use Rattle.words.specs.Order.{all_zero}
use Rattle.words.specs.Splice.{part, splice}
use Rattle.words.proofs.Tests.{both}
use Rattle.records.specs.Limits.{id_min, id_max}
use Rattle.records.specs.Verdict.{must}
use Rattle.records.specs.declared.payload.BuildId.{BuildId}
use Rattle.records.specs.declared.refusal.Place.TheVariants.{Section}
use Rattle.records.proofs.Checks.{must-pass, scan-passes}
use Rattle.elf.specs.Layout.{note_head_size, note_of}
use Rattle.elf.specs.declared.Note.{Note}
use Rattle.kinds.specs.Kinds.{is_note_kind}
use Rattle.object.specs.Sections.{section_in, contents_of}
use Rattle.object.specs.declared.sections.SectionEntry.{SectionEntry}
use Rattle.notes.specs.Notes.{id_length, padded, note_head_ok, note_ok, id_in, note_rules}

-- the rest of a list, to its end
pub all-of-rest : {A : Type 0} (s : List A) (at : ℕ) → take (length s - at) (drop at s) ≡ drop at s
all-of-rest s at = rw (← length-drop at s, take-length)

-- ---- by a head that was read

module _ (note : List ℕ) where
  abbrev pub ok_by : Note → Bool
  ok_by head =
      leb note_head_size (length note)
      && note_head_ok head
      && eqb (length note) (note_head_size + padded head.n_descsz)
      && all_zero (drop (note_head_size + head.n_descsz) note)

  abbrev pub id_by : Note → BuildId
  id_by head =
      record { bytes = splice (replicate id_max 0) 0 (part note note_head_size head.n_descsz); length = head.n_descsz }

  module _ {head : Note} (known : head ≡ note_of note) where
    pub ok-by : note_ok note ≡ ok_by head
    unfolding note_ok
    ok-by = ap ok_by (sym known)

    pub id-by : id_in note ≡ id_by head
    unfolding id_in
    id-by = ap id_by (sym known)

-- ---- a note's length

-- the length of its id is in its limits
head-length : (head : Note) → note_head_ok head ≡ true → (id_min ≤ head.n_descsz) × (head.n_descsz ≤ id_max)
unfolding note_head_ok
head-length head h =
    let named = both _ (eqb head.name 0x00554e47) h in
    let typed = both _ (eqb head.n_type 3) named.0 in
    let high = both _ _ typed.0 in
    let low = both (eqb head.n_namesz 4) _ high.0 in
    (leb-true _ _ low.1, leb-true _ _ high.1)

-- a note that is right is as long as its id says, and the id has its length
pub note-ok-length :
    (note : List ℕ) → note_ok note ≡ true →
    (length note ≡ note_head_size + padded (id_length note)) × (id_min ≤ id_length note) × (id_length note ≤ id_max)
unfolding note_ok
note-ok-length note h =
    let ended = both _ (all_zero (drop (note_head_size + id_length note) note)) h in
    let sized = both _ (eqb (length note) (note_head_size + padded (id_length note))) ended.0 in
    let headed = both (leb note_head_size (length note)) _ sized.0 in
    let id = head-length (note_of note) headed.1 in
    (eqb-true _ _ sized.1, id.0, id.1)

-- ---- notes that pass

module _ (file : List ℕ) (ss : List SectionEntry) (n : ℕ) where
  abbrev right-note : ℕ → Bool
  right-note i = note_ok (contents_of file (section_in ss i).header)

  abbrev one-verdict : ℕ → Verdict
  one-verdict i = cond (is_note_kind (section_in ss i).kind) (must (right-note i) 22 (Section i)) (Ok tt)

  pub note-passes : note_rules file ss n ≡ Ok tt → (i : ℕ) → i < n → is_note_kind (section_in ss i).kind ≡ true → right-note i ≡ true
  unfolding note_rules
  note-passes passes i below kind =
      let here = scan-passes one-verdict 0 n passes i (omega arith) (omega arith) in
      must-pass _ 22 (Section i) (rw kind at here)
