-- An edit of a table, as it is copied out of an array.
use Prim.Native.Nat.{ℕ, ◌<◌}
use mathlib.Core.Path.{◌≡◌}
use mathlib.Core.List.{List}
use lib.ListN.{length, get_or}
use Rattle.words.proofs.Splice.{get_d_default}
use Rattle.records.specs.Payload.{no_edit}
use Rattle.records.specs.declared.payload.Edit.{Edit}
use Rattle.records.specs.declared.payload.EditKind.TheVariants.{Jump}

pub copied : (es : List Edit) (i : ℕ) → i < length es → get_or es i no_edit ≡ get_or es i (record { offset = 0; length = 0; kind = Jump 0 })
copied es i h = get_d_default es i no_edit _ h
