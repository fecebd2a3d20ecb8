-- Entries of one width, one for each payload, written one after the other; and the list by what its rules say.
use Rattle.records.specs.Refusal.{Verdict}
use Rattle.std.proofs.Common.{Ok, Err}
use Prim.Native.Nat.{ℕ, ◌+◌, ◌*◌, ◌-◌, ◌≤◌, ◌<◌}
use mathlib.Core.Path.{◌≡◌, refl, sym, ap, ◌∙◌}
use mathlib.Core.Bool.{true}
use mathlib.Core.List.{List, [], ◌∷◌, ◌++◌, append-nil, append_assoc}
use native.Mathlib.Nat.{mul-suc, mul-zero}
use native.Mathlib.Numerals.{add-one}
use native.Mathlib.Omega.{arith}
use borrow.Author.Tests.{leb-true}
use lib.Dec.{leb}
use lib.ListN.{length, get_or, drop, length-append, length-drop}
use lib.Seq.{take-suc, get_or-drop}
use Rattle.words.specs.Number.{le_bytes}
use Rattle.words.specs.Splice.{splice, part}
use Rattle.words.proofs.Number.{length-le_bytes}
use Rattle.words.proofs.Splice.{splice-none, splice-append, length-splice}
use Rattle.words.proofs.Tests.{three}
use Rattle.records.specs.Limits.{name_max}
use Rattle.records.specs.Verdict.{must}
use Rattle.records.specs.declared.payload.Payload.{Payload}
use Rattle.records.specs.declared.refusal.Place.TheVariants.{Nowhere}
use Rattle.records.specs.declared.refusal.Refusal.{Refusal}
use Rattle.records.proofs.Checks.{must-pass, then-pass}
use Rattle.memory.specs.Memory.{slot_count}
use Rattle.state.specs.State.{loaded}
use Rattle.state.specs.declared.state.State.{State}
use Rattle.ranges.specs.Ranges.{in_range}
use Rattle.listing.specs.List.{status_bytes, joined, Buffers, has_room, list_rules_for, list_rules, written_count, written_over, listing, list_of}

part-more : {A : Type 0} (l : List A) (at n : ℕ) (d : A) → at + n < length l → part l at (n + 1) ≡ part l at n ++ (get_or l (at + n) d ∷ [])
unfolding part
part-more l at n d h =
    let inside : n < length (drop at l) = rw length-drop (omega arith) in
    rw (add-one n, take-suc (drop at l) n d inside, get_or-drop)

-- two numbers of 4 bytes, one behind the other
pub two-words :
    (s : List ℕ) (at x y : ℕ) → at ≤ length s → splice (splice s at (le_bytes 4 x)) (at + 4) (le_bytes 4 y) ≡ splice s at (le_bytes 4 x ++ le_bytes 4 y)
two-words s at x y fits = rw (length-le_bytes 4 x) at (splice-append s at (le_bytes 4 x) fits (le_bytes 4 y))

pub length-status : (p : Payload) → length (status_bytes p) ≡ 8
length-status p = simp (length-append, length-le_bytes)

module _ (bytes : Payload → List ℕ) where
  joined-more : (ps : List Payload) (p : Payload) → joined bytes (ps ++ (p ∷ [])) ≡ joined bytes ps ++ bytes p
  unfolding joined
  joined-more [] p = append-nil (bytes p)
  joined-more (q ∷ ps) p = rw (joined-more ps p) (sym (append_assoc (bytes q) (joined bytes ps) (bytes p)))

  module _ (width : ℕ) (ps : List Payload) (first : ℕ) (s₀ : List ℕ) where
    -- s is s₀ with the entries of the n payloads from `first` on written over its beginning
    pub record Entries (n : ℕ) (s : List ℕ) : Type 0 where
      pub size : length (joined bytes (part ps first n)) ≡ width * n
      pub written : s ≡ splice s₀ 0 (joined bytes (part ps first n))
      pub whole : length s ≡ length s₀

    pub entries_none : Entries 0 s₀
    unfolding part joined
    entries_none = record { size = sym (mul-zero width); written = sym (splice-none s₀ 0); whole = refl }

    -- one more
    pub entries-more :
        {n : ℕ} {s : List ℕ} → Entries n s → (d p : Payload) → first + n < length ps → get_or ps (first + n) d ≡ p → length (bytes p) ≡ width →
        width * (n + 1) ≤ length s₀ → {t : List ℕ} → t ≡ splice s (width * n) (bytes p) → Entries (n + 1) t
    entries-more {n} {s} e d p inside here wide room told =
        let next : width * (n + 1) ≡ width * n + width = rw add-one (mul-suc width n) in
        let more : joined bytes (part ps first (n + 1)) ≡ joined bytes (part ps first n) ++ bytes p =
        rw (part-more ps first n d inside, here) (joined-more (part ps first n) p) in
        let end : width * n + length (bytes p) ≤ length s = omega (arith, e.whole) in
        let seam : width * n ≡ 0 + length (joined bytes (part ps first n)) = omega (arith, e.size) in
        record {
          size = rw (more, length-append) (omega (arith, e.size));
          written = told ∙ rw (more, seam, e.written) (splice-append s₀ 0 (joined bytes (part ps first n)) (omega arith) (bytes p));
          whole = ap length told ∙ length-splice s (width * n) (bytes p) end ∙ e.whole;
        }

-- what `has_room` says, as facts
pub record Room (nr statuses names lengths : ℕ) : Type 0 where
  pub in_statuses : 8 * nr ≤ statuses
  pub in_names : name_max * nr ≤ names
  pub in_lengths : 4 * nr ≤ lengths

pub room-told : (nr statuses names lengths : ℕ) → has_room nr statuses names lengths ≡ true → Room nr statuses names lengths
unfolding has_room
room-told nr statuses names lengths h =
    let parts = three (leb (8 * nr) statuses) (leb (name_max * nr) names) (leb (4 * nr) lengths) h in
    record { in_statuses = leb-true _ _ parts.0; in_names = leb-true _ _ parts.1; in_lengths = leb-true _ _ parts.2 }

-- what a list that the rules let through was asked for
pub record Asked (s : State) (idx nr statuses names lengths : ℕ) : Type 0 where
  pub ranges : in_range s ≡ true
  pub inside : idx ≤ s.count
  pub room : Room nr statuses names lengths

pub asked :
    (s : State) (idx nr statuses names lengths : ℕ) → list_rules_for s idx nr statuses names lengths ≡ Ok tt → Asked s idx nr statuses names lengths
unfolding list_rules_for
asked s idx nr statuses names lengths h =
    let first = then-pass (must (in_range s) 22 Nowhere) _ h in
    let second = then-pass (must (leb nr slot_count) 7 Nowhere) _ first.1 in
    let third = then-pass (must (leb idx s.count) 22 Nowhere) _ second.1 in
    record {
      ranges = must-pass (in_range s) 22 Nowhere first.0;
      inside = leb-true _ _ (must-pass (leb idx s.count) 22 Nowhere third.0);
      room = room-told nr statuses names lengths (must-pass _ 22 Nowhere third.1);
    }

-- the list by what the rules said
module _ (s : State) (idx nr : ℕ) (b : Buffers) {v : Verdict} (rules : v ≡ list_rules s idx nr b) where
  pub refuses : {f : Refusal} → v ≡ Err f → listing (Err f) b ≡ list_of s idx nr b
  unfolding list_of
  refuses said = rw (← rules, said)

  pub accepts :
      {n : ℕ} {after : Buffers} → v ≡ Ok tt → n ≡ written_count s idx nr → after ≡ written_over (part (loaded s) idx n) b →
      listing (Ok (record { written = n; left = s.count - idx - n; version = s.version })) after ≡ list_of s idx nr b
  unfolding list_of
  accepts said counted after = rw (← rules, after, counted, said)
