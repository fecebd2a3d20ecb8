-- Comparisons by differences; and what a configuration that start-up accepted has: its numbers are in their ranges, and neither text nor
-- arena passes 2^64.
use Prim.Native.Nat.{ℕ, ◌+◌, ◌-◌, ◌%◌, ◌^◌, ◌≤◌, ◌<◌}
use mathlib.Core.Path.{◌≡◌, refl, sym, ◌∙◌}
use mathlib.Core.Bool.{Bool, true, false, not}
use native.Mathlib.Omega.{arith}
use borrow.Author.Tests.{leb-true, leb-false, le-leb, lt-leb, eqb-true, eqb-false, not-true}
use lib.Dec.{leb, eqb}
use Rattle.words.proofs.Tests.{three, four}
use Rattle.records.specs.Limits.{id_min, id_max}
use Rattle.machine.specs.Host.{text_max}
use Rattle.memory.specs.Config.{cpus_max, arena_align, text_ok, arena_ok, are_apart, counts_ok, config_ok, no_config}
use Rattle.memory.specs.Memory.{arena_size}
use Rattle.memory.specs.declared.config.Config.{Config}

-- ---- comparisons

-- two comparisons of which each follows from the other are one test
same-leb : (a b c d : ℕ) → (a ≤ b → c ≤ d) → (b < a → d < c) → leb a b ≡ leb c d
same-leb a b c d holds fails = by-test (leb a b) refl
  where
    by-test : (t : Bool) → leb a b ≡ t → leb a b ≡ leb c d
    by-test true e = e ∙ sym (le-leb c d (holds (leb-true a b e)))
    by-test false e = e ∙ sym (lt-leb c d (fails (leb-false a b e)))

-- n numbers from a on end at b or before, told by the difference
pub by_difference : (a b n : ℕ) → a ≤ b → leb n (b - a) ≡ leb (a + n) b
by_difference a b n h = same-leb n (b - a) (a + n) b (λ few. omega arith) (λ many. omega arith)

-- the last of n addresses from a on lies before 2^64, told by what is left after a
pub by-room : (a n : ℕ) → a < 2 ^ 64 → 1 ≤ n → leb (n - 1) (2 ^ 64 - 1 - a) ≡ leb (a + n) (2 ^ 64)
by-room a n h some = same-leb (n - 1) (2 ^ 64 - 1 - a) (a + n) (2 ^ 64) (λ few. omega arith) (λ many. omega arith)

-- ---- an accepted configuration

-- that of no unit is not accepted
pub no-config : config_ok no_config ≡ false
unfolding config_ok text_ok
no-config = refl

-- what `config_ok` says, as facts
pub record Valid (c : Config) : Type 0 where
  pub text_some : 1 ≤ c.text_length
  pub text_max : c.text_length ≤ text_max
  pub text_end : c.text + c.text_length ≤ 2 ^ 64
  pub arena_some : 1 ≤ c.arena
  pub arena_aligned : c.arena % arena_align ≡ 0
  pub arena_end : c.arena + arena_size ≤ 2 ^ 64
  pub apart : are_apart c ≡ true
  pub id_some : id_min ≤ c.id_length
  pub id_max : c.id_length ≤ id_max
  pub cpus_some : 1 ≤ c.cpus
  pub cpus_max : c.cpus ≤ cpus_max

pub valid-config : (c : Config) → config_ok c ≡ true → Valid c
unfolding config_ok text_ok arena_ok counts_ok
valid-config c h =
    let parts = four (text_ok c) (arena_ok c) (are_apart c) (counts_ok c) h in
    let text = three (leb 1 c.text_length) (leb c.text_length text_max) (leb (c.text + c.text_length) (2 ^ 64)) parts.0 in
    let arena = three (not (eqb c.arena 0)) (eqb (c.arena % arena_align) 0) (leb (c.arena + arena_size) (2 ^ 64)) parts.1 in
    let counts = four (leb id_min c.id_length) (leb c.id_length id_max) (leb 1 c.cpus) (leb c.cpus cpus_max) parts.3 in
    record {
      text_some = leb-true _ _ text.0;
      text_max = leb-true _ _ text.1;
      text_end = leb-true _ _ text.2;
      arena_some = omega (arith, eqb-false c.arena 0 (not-true _ arena.0));
      arena_aligned = eqb-true _ _ arena.1;
      arena_end = leb-true _ _ arena.2;
      apart = parts.2;
      id_some = leb-true _ _ counts.0;
      id_max = leb-true _ _ counts.1;
      cpus_some = leb-true _ _ counts.2;
      cpus_max = leb-true _ _ counts.3;
    }
