-- What the sizes of an upload say.
use Prim.Native.Nat.{ℕ}
use mathlib.Core.Path.{◌≡◌}
use mathlib.Core.Bool.{true}
use borrow.Author.Tests.{eqb-true}
use lib.Dec.{eqb}
use Rattle.words.proofs.Tests.{three}
use Rattle.memory.specs.Memory.{arena_size, ids_size}
use Rattle.state.specs.declared.state.State.{State}
use Rattle.ranges.specs.Ranges.{in_range}
use Rattle.upload_room.specs.Room.{upload_sizes_ok}

pub sizes-told :
    (s : State) (arena ids : ℕ) → upload_sizes_ok s arena ids ≡ true → (in_range s ≡ true) × (arena ≡ arena_size) × (ids ≡ ids_size)
unfolding upload_sizes_ok
sizes-told s arena ids h =
    let parts = three (in_range s) (eqb arena arena_size) (eqb ids ids_size) h in
    (parts.0, eqb-true _ _ parts.1, eqb-true _ _ parts.2)
