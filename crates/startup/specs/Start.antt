-- Document 01: start-up.
use Rattle.records.specs.Refusal.{Verdict}
use Rattle.std.specs.Prelude.{ℕ, Bool, false, ◌&&◌, List, eqb, length, replicate, Ok, Err}
use Rattle.records.specs.Verdict.{must, decide}
use Rattle.records.specs.declared.refusal.Place.TheVariants.{Nowhere}
use Rattle.machine.specs.declared.processor.Processor.TheVariants.{X86_64}
use Rattle.memory.specs.Config.{config_ok}
use Rattle.memory.specs.Memory.{arena_size, undo_size, ids_size}
use Rattle.memory.specs.declared.config.Config.{Config}
use Rattle.state.specs.State.{state_with, no_state}
use Rattle.state.specs.declared.state.Called.{Called}
use Rattle.state.specs.declared.state.State.{State}

-- "Start-up takes these and a CPU count": text and build-id are read, arena and both stores are written
pub record Lent : Type 0 where
  pub text : List ℕ
  pub text_base : ℕ
  pub arena : List ℕ
  pub arena_base : ℕ
  pub undo : List ℕ
  pub ids : List ℕ
  pub build_id : List ℕ
  pub cpus : ℕ

-- the numbers that are kept of it
abbrev pub config_for : Lent → Config
config_for l =
    record {
      processor = X86_64;
      text = l.text_base;
      text_length = length l.text;
      arena = l.arena_base;
      id_length = length l.build_id;
      cpus = l.cpus;
    }

-- "exactly 65,536 bytes", "7,936 bytes", "512 bytes" (W1)
unfoldable pub stores_ok : ℕ → ℕ → ℕ → Bool
stores_ok arena undo ids = eqb arena arena_size && eqb undo undo_size && eqb ids ids_size

-- "It refuses with 22 if a size, base or CPU count is wrong, a range's last byte lies past 2^64 - 1, or text and arena share an address."
unfoldable pub start_rules : Lent → Verdict
start_rules l =
    must (stores_ok (length l.arena) (length l.undo) (length l.ids) && config_ok (config_for l)) 22 Nowhere

-- the answer, the state, and what arena and stores then hold
pub record Started : Type 0 where
  pub answer : Verdict
  pub state : State
  pub arena : List ℕ
  pub undo : List ℕ
  pub ids : List ℕ

abbrev pub started : Called → List ℕ → List ℕ → List ℕ → Started
started r arena undo ids = record { answer = r.verdict; state = r.state; arena = arena; undo = undo; ids = ids }

-- a refusal: the state that it returns is accepted by no call
abbrev pub refused_start : Called
refused_start = record { verdict = must false 22 Nowhere; state = no_state }

-- "Else it zeroes arena and both stores." A refusal changes nothing.
unfoldable pub start_of : Lent → Started
start_of l =
    decide
    (λ r. record { answer = Err r; state = no_state; arena = l.arena; undo = l.undo; ids = l.ids })
    (record {
      answer = Ok tt;
      state = state_with (config_for l);
      arena = replicate arena_size 0;
      undo = replicate undo_size 0;
      ids = replicate ids_size 0;
    })
    (start_rules l)
