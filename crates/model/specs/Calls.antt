-- The calls with their arguments, and what each gives back.
use Rattle.records.specs.Refusal.{Verdict}
use Rattle.std.specs.Prelude.{ℕ, List}

-- "in three lent buffers": statuses and results, names, lengths
pub record Buffers : Type 0 where
  pub statuses : List ℕ
  pub names : List ℕ
  pub lengths : List ℕ

pub data Call : Type 0 where
  -- name, symbol list, file
  Upload : List ℕ → List ℕ → List ℕ → Call
  -- name
  Get : List ℕ → Call
  -- idx, nr, and what the lent buffers hold
  ListFrom : ℕ → ℕ → Buffers → Call
  -- name, command, time
  Act : List ℕ → ℕ → ℕ → Call
  -- CPU
  Report : ℕ → Call
  Tick : Call
  Work : Call
  -- the id the stack stands on
  TopId : Call

pub data Reply : Type 0 where
  -- accepted, or refused with number and place
  Says : Verdict → Reply
  -- status and result: both 0 where it is refused
  Tells : Verdict → ℕ → ℕ → Reply
  -- count written, count left, version: 0 where it is refused; and what the lent buffers then hold
  Lists : Verdict → ℕ → ℕ → ℕ → Buffers → Reply
  -- the bytes that are handed out
  HandsOut : List ℕ → Reply
