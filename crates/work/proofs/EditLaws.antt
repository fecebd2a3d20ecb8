-- An edit laid and taken off: what the two lent stores then hold; and what an edit in range has.
use Prim.Native.Nat.{ℕ, ◌+◌, ◌-◌, ◌≤◌}
use mathlib.Core.Path.{◌≡◌, refl, ap, ◌∙◌}
use mathlib.Core.Bool.{true}
use mathlib.Core.List.{List, ◌++◌, append_assoc}
use native.Mathlib.Nat.{zero-add, add-sub_cancel_left}
use native.Mathlib.Omega.{arith}
use borrow.Author.Tests.{eqb-true}
use lib.Dec.{eqb}
use lib.ListN.{length, get_or, take, drop, replicate, length-append, length-replicate}
use lib.Seq.{length-take-le}
use Rattle.words.specs.Splice.{splice, part}
use Rattle.words.proofs.Splice.{splice_front, splice-behind, length-splice}
use Rattle.words.proofs.Tests.{three}
use Rattle.records.specs.Payload.{no_edit}
use Rattle.records.specs.declared.payload.Edit.{Edit}
use Rattle.records.specs.declared.payload.EditKind.{EditKind}
use Rattle.records.specs.declared.payload.EditKind.TheVariants.{Jump, Fill}
use Rattle.machine.specs.Host.{machine_of}
use Rattle.machine.specs.Machine.{Machine, edit_max, edit_bytes}
use Rattle.machine.proofs.Laws.{Lawful, lawful, length-edit}
use Rattle.memory.specs.Memory.{undo_size}
use Rattle.state.specs.declared.state.State.{State}
use Rattle.state.specs.declared.steps.Step.{Step}
use Rattle.ranges.specs.Ranges.{is_edit_length, in_range}
use Rattle.steps.proofs.StepLaws.{OfRecord}
use Rattle.work.specs.Work.{Lent, lent, work_sizes_ok, undo_record, Ready}

-- both stores
pub lent_same : {text text' undo undo' : List ℕ} → text ≡ text' → undo ≡ undo' → lent text undo ≡ lent text' undo'
lent_same e f = rw (e, f)

-- the n elements that a range from at on lends
pub lent-part : (s : List ℕ) (at n : ℕ) → take (at + n - at) (drop at s) ≡ part s at n
unfolding part
lent-part s at n = rw (add-sub_cancel_left at n)

-- a splice within the one before it, at its front
splice-within :
    (s : List ℕ) (at : ℕ) (new other : List ℕ) → at + length new ≤ length s → length other ≤ length new →
    splice (splice s at new) at other ≡ splice s at (splice new 0 other)
unfolding splice
splice-within s at new other h g =
    let before = take at s in
    let after = drop (at + length new) s in
    let front : length before ≡ at = length-take-le at s (omega arith) in
    let short : at + length other ≤ length (before ++ new) = rw length-append (omega (arith, front)) in
    let same : length (other ++ drop (0 + length other) new) ≡ length new = length-splice new 0 other (omega arith) in
    splice_front (before ++ new) after at other short
    ∙ ap (λ (l : List ℕ). l ++ after) (splice-behind before new at other front)
    ∙ rw (same, zero-add, append_assoc before other (drop (length other) new))

-- the saved bytes over a zeroed undo record
pub record-saved :
    (undo : List ℕ) (at : ℕ) (saved : List ℕ) → at + edit_max ≤ length undo → length saved ≤ edit_max →
    splice (splice undo at (replicate edit_max 0)) at saved ≡ splice undo at (undo_record saved)
record-saved undo at saved h g =
    let zeros : List ℕ = replicate edit_max 0 in
    let size : length zeros ≡ edit_max = length-replicate {A = ℕ} edit_max 0 in
    splice-within undo at zeros saved (omega (arith, size)) (omega (arith, size))

-- ---- what an edit in range has

-- an edit of its kind's length: its bytes are as many as it says, and no more than an undo record holds
pub kind-long :
    {m : Machine} → Lawful m → (e : Edit) → is_edit_length m e.kind e.length ≡ true →
    (length (edit_bytes m e) ≡ e.length) × (e.length ≤ edit_max)
kind-long {m} laws e h = by_kind e.kind refl h
  where
    by_kind : (k : EditKind) → e.kind ≡ k → is_edit_length m k e.length ≡ true → (length (edit_bytes m e) ≡ e.length) × (e.length ≤ edit_max)
    by_kind (Jump d) is g =
        let long : e.length ≡ m.jump_length = eqb-true _ _ g in
        ((length-edit laws e).0 d is ∙ rw long, rw long laws.jump_max)
    by_kind Fill is g = ((length-edit laws e).1 is, laws.fill_max _ g)

-- the sizes of the lent stores, where they are right
pub sizes-told :
    (s : State) (text undo : ℕ) → work_sizes_ok s text undo ≡ true → (in_range s ≡ true) × (text ≡ s.config.text_length) × (undo ≡ undo_size)
unfolding work_sizes_ok
sizes-told s text undo h =
    let parts = three (in_range s) (eqb text s.config.text_length) (eqb undo undo_size) h in
    (parts.0, eqb-true _ _ parts.1, eqb-true _ _ parts.2)

-- a step of a record in range has what its edit needs
pub ready :
    {s : State} {k : Step} → OfRecord s k → (l : Lent) → length l.text ≡ s.config.text_length → length l.undo ≡ undo_size →
    Ready (machine_of s.config.processor) k l
ready {s} {k} o l text undo =
    let p = o.payload in
    let edit = o.ranged.edits o.number o.below in
    let long = kind-long (lawful s.config.processor) (get_or p.edits o.number no_edit) edit.long in
    rw o.same
    record {
      slot = o.ranged.slot;
      number = omega (arith, o.below, o.ranged.edits_max);
      inside = omega (arith, edit.inside, text);
      bytes = long.0;
      short = long.1;
      store = undo;
    }
