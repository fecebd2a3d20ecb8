-- What a search in a state found: the payload in a slot, and the lowest free slot.
use Rattle.std.proofs.Common.{Some, None, Option, ℕ}
use Prim.Native.Nat.{ℕ, zero, suc, ◌+◌, ◌≤◌, ◌<◌}
use mathlib.Core.Path.{◌≡◌, refl}
use mathlib.Core.Bool.{Bool, true, false, cond}
use native.Mathlib.Omega.{arith}
use borrow.Author.Tests.{eqb-true, ltb-true}
use lib.Dec.{ltb}
use lib.ListN.{get_or, length-take}
use lib.Seq.{get_or-take}
use Rattle.words.specs.Name.{is_found}
use Rattle.words.specs.Scan.{scan}
use Rattle.words.proofs.Find.{first-hit}
use Rattle.words.proofs.Scan.{from-here}
use Rattle.records.specs.Payload.{empty}
use Rattle.memory.specs.Memory.{slot_count}
use Rattle.state.specs.Find.{is_in, with_slot, is_taken, lowest_free, free_slot, payload_at, payload_in}
use Rattle.state.specs.State.{loaded}
use Rattle.state.specs.declared.state.State.{State}

module _ (s : State) (slot : ℕ) where
  -- a payload that was found is in the list, and in that slot
  pub slot-hit : (i : ℕ) → with_slot s slot ≡ Some i → (i < s.count) × ((payload_at s i).slot ≡ slot)
  unfolding with_slot
  slot-hit i h =
      let f = first-hit (is_in slot) (loaded s) empty i h in
      let below : i < s.count = omega (arith, f.0, length-take s.count s.payloads) in
      (below, rw (get_or-take s.count s.payloads i empty below) at (eqb-true (get_or (loaded s) i empty).slot slot f.1))

  -- a slot that is taken: the place of its payload
  pub record Taken : Type 0 where
    pub place : ℕ
    pub found : with_slot s slot ≡ Some place
    pub counted : place < s.count
    pub slotted : (payload_at s place).slot ≡ slot
    pub held : payload_in s slot ≡ payload_at s place

  taken-if : (f : Option ℕ) → with_slot s slot ≡ f → is_found f ≡ true → Taken
  unfolding payload_in
  taken-if (Some i) e h =
      let p = slot-hit i e in
      record { place = i; found = e; counted = p.0; slotted = p.1; held = rw e }
  taken-if None e h =
      let never : ◌≡◌ {A = ℕ} 0 1 = cc in
      absurd (omega arith)

  pub taken : is_taken s slot ≡ true → Taken
  taken h = taken-if (with_slot s slot) refl h

-- e is the first free slot of the k from i on
pub record Free (s : State) (i k e : ℕ) : Type 0 where
  pub low : i ≤ e
  pub high : e < i + k
  pub free : is_taken s e ≡ false
  pub lower : (j : ℕ) → i ≤ j → j < e → is_taken s j ≡ true

module _ (s : State) where
  abbrev free_from : ℕ → ℕ → Option ℕ
  free_from i k = scan (λ slot rest. cond (is_taken s slot) rest (Some slot)) None i k

  free-if :
      (i k e : ℕ) (t : Bool) → is_taken s i ≡ t → (free_from (suc i) k ≡ Some e → Free s (suc i) k e) →
      cond t (free_from (suc i) k) (Some i) ≡ Some e → Free s i (suc k) e
  free-if i k e true p later h =
      let f = later h in
      record { low = omega (arith, f.low); high = omega (arith, f.high); free = f.free; lower = from-here i e p f.lower }
  free-if i k e false p later h =
      let same : i ≡ e = cc in
      record { low = omega arith; high = omega arith; free = rw same at p; lower = λ j l m. absurd (omega arith) }

  free-from : (i k e : ℕ) → free_from i k ≡ Some e → Free s i k e
  unfolding scan
  free-from i zero e h =
      let never : ◌≡◌ {A = ℕ} 0 1 = cc in
      absurd (omega arith)
  free-from i (suc k) e h = free-if i k e (is_taken s i) refl (free-from (suc i) k e) h

  free-if-room : (t : Bool) (e : ℕ) → ltb s.count slot_count ≡ t → cond t (lowest_free s) None ≡ Some e → (s.count < slot_count) × Free s 0 slot_count e
  unfolding lowest_free
  free-if-room true e room h = (ltb-true _ _ room, free-from 0 slot_count e h)
  free-if-room false e room h =
      let never : ◌≡◌ {A = ℕ} 0 1 = cc in
      absurd (omega arith)

  -- a slot that an upload takes is free, and the list has room
  pub free-slot : (e : ℕ) → free_slot s ≡ Some e → (s.count < slot_count) × Free s 0 slot_count e
  unfolding free_slot
  free-slot e h = free-if-room (ltb s.count slot_count) e refl h
