-- Start-up by what its tests answered.
use Rattle.std.proofs.Common.{Ok}
use Prim.Native.Nat.{ℕ, ◌<◌}
use mathlib.Core.Path.{◌≡◌, refl, sym, ◌∙◌}
use mathlib.Core.Bool.{Bool, true, false, ◌&&◌}
use mathlib.Core.List.{List}
use native.Mathlib.Omega.{arith}
use borrow.Author.Tests.{eqb-true}
use lib.Dec.{eqb}
use lib.ListN.{length, replicate, length-replicate}
use Rattle.words.specs.Splice.{splice}
use Rattle.words.proofs.Splice.{splice-whole}
use Rattle.records.specs.Limits.{id_max}
use Rattle.memory.specs.Config.{config_ok}
use Rattle.memory.specs.Memory.{arena_size, undo_size, ids_size}
use Rattle.memory.specs.declared.config.Config.{Config}
use Rattle.words.proofs.Tests.{three}
use Rattle.memory.proofs.Laws.{valid-config}
use Rattle.state.specs.State.{state_with}
use Rattle.state.specs.declared.state.Called.{Called}
use Rattle.startup.specs.Start.{Lent, config_for, stores_ok, start_rules, started, refused_start, start_of}

-- an accepted unit's answer
abbrev pub accepted_start : Config → Called
accepted_start c = record { verdict = Ok tt; state = state_with c }

abbrev pub start_ok : Lent → Bool
start_ok l = stores_ok (length l.arena) (length l.undo) (length l.ids) && config_ok (config_for l)

module _ (l : Lent) where
  pub refuses : start_ok l ≡ false → start_of l ≡ started refused_start l.arena l.undo l.ids
  unfolding start_of start_rules
  refuses e = rw e

  pub accepts :
      start_ok l ≡ true →
      start_of l ≡ started (accepted_start (config_for l)) (replicate arena_size 0) (replicate undo_size 0) (replicate ids_size 0)
  unfolding start_of start_rules
  accepts e = rw e

-- a build-id that is too long
pub long-id : (c : Config) → id_max < c.id_length → config_ok c ≡ false
long-id c h = by-test (config_ok c) refl
  where
    by-test : (t : Bool) → config_ok c ≡ t → config_ok c ≡ false
    by-test true e = absurd (omega (arith, (valid-config c e).id_max))
    by-test false e = e

pub sizes-told :
    (arena undo ids : ℕ) → stores_ok arena undo ids ≡ true → (arena ≡ arena_size) × (undo ≡ undo_size) × (ids ≡ ids_size)
unfolding stores_ok
sizes-told arena undo ids h =
    let all = three (eqb arena arena_size) (eqb undo undo_size) (eqb ids ids_size) h in
    (eqb-true _ _ all.0, eqb-true _ _ all.1, eqb-true _ _ all.2)

-- a store filled from its first byte to its last
pub zeroed : (s : List ℕ) (n : ℕ) → length s ≡ n → splice s 0 (replicate n 0) ≡ replicate n 0
zeroed s n e = splice-whole s (replicate n 0) (length-replicate n 0 ∙ sym e)

-- what start-up leaves, part by part
pub started-same :
    {r q : Called} {a b u v i j : List ℕ} → r ≡ q → a ≡ b → u ≡ v → i ≡ j → started r a u i ≡ started q b v j
started-same p q v w = rw (p, q, v, w)
