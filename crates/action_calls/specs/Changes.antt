-- Start-up and an action over the records buffer.
use Rattle.std.specs.Prelude.{ℕ, ◌≡◌, cond, List, eqb, length}
use Rattle.records.specs.Refusal.{verdict_code}
use Rattle.records.specs.Verdict.{decide}
use Rattle.startup.specs.Start as start
use Rattle.actions.specs.Actions as actions
use Rattle.state.specs.State.{state_with}
use Rattle.state_bytes.specs.Layout.{records_size}
use Rattle.state_bytes.specs.Stored.{bytes_of, state_in, HoldsState}
use Rattle.calls.specs.Told.{Told, told, invalid, stored, over_records}

-- ---- start-up: what the records hold does not matter, and a refusal leaves them

-- arena and both stores
pub record Memory : Type 0 where
  pub arena : List ℕ
  pub undo : List ℕ
  pub ids : List ℕ

abbrev pub memory : List ℕ → List ℕ → List ℕ → Memory
memory arena undo ids = record { arena = arena; undo = undo; ids = ids }

-- what start-up is lent: text and its base, arena and its base, both stores, the build-id, the CPU count
abbrev pub start_lent : List ℕ → ℕ → List ℕ → ℕ → List ℕ → List ℕ → List ℕ → ℕ → start.Lent
start_lent text text_base arena arena_base undo ids build_id cpus =
    record {
      text = text;
      text_base = text_base;
      arena = arena;
      arena_base = arena_base;
      undo = undo;
      ids = ids;
      build_id = build_id;
      cpus = cpus;
    }

unfoldable pub start_told : List ℕ → start.Lent → Told Memory
start_told b l =
    let x : start.Started = start.start_of l in
    cond (eqb (length b) records_size)
    (told (verdict_code x.answer) (decide (λ r. b) (bytes_of x.state) x.answer) (memory x.arena x.undo x.ids))
    (told invalid b (memory l.arena l.undo l.ids))

-- accepted, the records hold the state in which nothing is loaded
abbrev pub StartKept : ℕ → start.Lent → List ℕ → Type 0
StartKept answer l after = answer ≡ 0 → HoldsState (state_with (start.config_for l)) after

-- ---- an action

unfoldable pub action_told : List ℕ → List ℕ → actions.Lent → actions.Request → Told actions.Lent
action_told b build_id l q =
    let a : actions.Acted = actions.action_of (state_in b) build_id l q in
    over_records b l (stored a.answer a.state a.after)
