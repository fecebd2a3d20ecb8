-- What is held of a line, and what counts in the buffers.
use Rattle.std.specs.Prelude.{ℕ, ◌+◌, ◌≤◌}
use Rattle.interpreter.specs.Lines.{line_max}
use Rattle.interpreter.specs.Standing.{Within}
use Rattle.interpreter.specs.declared.console.Console.{Console}

-- a line is held up to one byte more than it may have, so that one that is too long is seen
abbrev pub held_max : ℕ
held_max = line_max + 1

pub record Ready (c : Console) (n : ℕ) : Type 0 where
  pub console : Within c
  pub held : n ≤ held_max
