-- A loop that writes the elements of new over those of a list from at on, the first of them first: where it begins, takes a turn and ends.
use Rattle.std.proofs.Common.{◌≡◌, ℕ, ◌+◌, ◌<◌, ◌≤◌, List, length, get_or, set, refl, ◌∙◌, add-one, arith, length-set}
use lib.Seq.{paste, paste-zero, paste-suc, take-length}
use Rattle.words.specs.Splice.{splice}

-- s is s₀ with the first i elements of new written
pub record Written (s₀ : List ℕ) (at : ℕ) (new : List ℕ) (i : ℕ) (s : List ℕ) : Type 0 where
  pub some : i ≤ length new
  pub bytes : s ≡ paste s₀ at new i
  pub whole : length s ≡ length s₀

module _ (s₀ : List ℕ) (at : ℕ) (new : List ℕ) where
  pub written_none : Written s₀ at new 0 s₀
  written_none = record { some = omega arith; bytes = paste-zero s₀ at new; whole = refl }

  module _ (i : ℕ) {s : List ℕ} (w : Written s₀ at new i s) where
    pub written-more :
        (b : ℕ) → at + length new ≤ length s₀ → i < length new → b ≡ get_or new i 0 → Written s₀ at new (i + 1) (set s (at + i) b)
    written-more b room more e =
        let there : at + i < length s₀ = omega arith in
        record {
          some = omega arith;
          bytes = rw (add-one, e, w.bytes) (paste-suc s₀ at new i 0 there more);
          whole = simp length-set w.whole;
        }

    pub written_all : i ≡ length new → s ≡ splice s₀ at new
    unfolding splice
    written_all all = w.bytes ∙ rw (all, take-length)
