-- Bytes written into a buffer.
use Rattle.std.specs.Prelude.{ℕ, ◌+◌, List, length}
use Rattle.words.specs.Splice.{splice}

-- the buffer, and the place behind what was written
pub record Written : Type 0 where
  pub out : List ℕ
  pub end : ℕ

abbrev pub written : List ℕ → ℕ → Written
written out end = record { out = out; end = end }

-- these bytes over those of the buffer from `at` on
abbrev pub writing : List ℕ → ℕ → List ℕ → Written
writing out at bytes = written (splice out at bytes) (at + length bytes)

-- the room that a line of an answer needs at most
abbrev pub line_room : ℕ
line_room = 256
