-- A start-up's answer is that on fresh memory, whatever arena, stores and text hold.
use Rattle.records.specs.Refusal.{Verdict}
use Rattle.std.proofs.Common.{◌≡◌, ℕ, ◌≤◌, true, ◌&&◌, List, length, take, replicate, sym, refl, ap, ◌∙◌, subst, arith, length-take-le, eq-eqb, Ok, Err}
use lib.ListN.{length-replicate}
use Rattle.records.specs.Verdict.{must}
use Rattle.records.specs.declared.refusal.Place.TheVariants.{Nowhere}
use Rattle.records.specs.declared.refusal.Refusal.{Refusal}
use Rattle.memory.specs.Config.{config_ok}
use Rattle.memory.specs.Memory.{arena_size, undo_size, ids_size}
use Rattle.state.specs.State.{state_with, no_state}
use Rattle.state.specs.declared.state.Called.{Called}
use Rattle.state.specs.declared.state.State.{State}
use Rattle.acceptance.proofs.Refusals.{pass-refuses}
use Rattle.startup.specs.Start.{Lent, Started, started, config_for, stores_ok, start_rules, start_of}
use Rattle.script.specs.Command.{size_most}
use Rattle.script.specs.declared.command.Host.{Host}
use Rattle.answers.specs.Answers.{verdict_line}
use Rattle.answers.specs.Written.{written, writing}
use Rattle.interpreter.specs.Lines.{line_max, fresh, start_line}
use Rattle.interpreter.specs.Session.{unit, Pending, Mode, ready}
use Rattle.interpreter.specs.Parts.{stores, stepped, SetsUp, begun, Starts}
use Rattle.interpreter.specs.Standing.{Within, unit_in, mode_in}
use Rattle.interpreter.specs.declared.buffers.Memory.{Memory}
use Rattle.interpreter.specs.declared.console.Console.{Console}
use Rattle.interpreter.specs.declared.console.Stepped.{Stepped}
use Rattle.interpreter.proofs.Bytes.{memory}

-- what start-up is lent, with the first bytes of a text
abbrev pub lent_by : Host → Memory → List ℕ → Lent
lent_by h m id =
    record {
      text = take h.size m.text;
      text_base = h.base;
      arena = m.arena;
      arena_base = h.arena;
      undo = m.undo;
      ids = m.ids;
      build_id = id;
      cpus = h.cpus;
    }

accepted-start : (l : Lent) → Started
accepted-start l =
    record {
      answer = Ok tt;
      state = state_with (config_for l);
      arena = replicate arena_size 0;
      undo = replicate undo_size 0;
      ids = replicate ids_size 0;
    }

refused-start : (l : Lent) (q : Refusal) → Started
refused-start l q = record { answer = Err q; state = no_state; arena = l.arena; undo = l.undo; ids = l.ids }

start-accepted : (l : Lent) → start_rules l ≡ Ok tt → start_of l ≡ accepted-start l
unfolding start_of accepted-start
start-accepted l e = rw e

start-refused : (l : Lent) (q : Refusal) → start_rules l ≡ Err q → start_of l ≡ refused-start l q
unfolding start_of refused-start
start-refused l q e = rw e

module _ (h : Host) (m : Memory) (id : List ℕ) (room : h.size ≤ length m.text) (sizes : stores m.arena m.undo m.ids ≡ true) where
  same-config : config_for (lent_by h m id) ≡ config_for (fresh h id)
  same-config = rw (length-take-le h.size m.text room, length-replicate {A = ℕ} h.size 0)

  fresh-stores : stores (replicate arena_size 0) (replicate undo_size 0) (replicate ids_size 0) ≡ true
  unfolding stores_ok
  fresh-stores = refl

  same-rules : start_rules (lent_by h m id) ≡ start_rules (fresh h id)
  unfolding start_rules
  same-rules =
      ap (λ t. must (t && config_ok (config_for (lent_by h m id))) 22 Nowhere) (sizes ∙ sym fresh-stores)
      ∙ ap (λ k. must (stores (replicate arena_size 0) (replicate undo_size 0) (replicate ids_size 0) && config_ok k) 22 Nowhere) same-config

  module _ (r : Called) (arena' undo' ids' : List ℕ) (e : started r arena' undo' ids' ≡ start_of (lent_by h m id)) where
    by-verdict : (v : Verdict) → start_rules (fresh h id) ≡ v → SetsUp h id r m (memory m.text arena' undo' ids' m.id)
    unfolding accepted-start refused-start
    by-verdict (Ok _) v =
        let old = e ∙ start-accepted _ (same-rules ∙ v) in
        let new = start-accepted (fresh h id) v in
        record {
          answer = ap (λ x. x.answer) old ∙ sym (ap (λ x. x.answer) new);
          refused = λ q e'. absurd (pass-refuses (sym (ap (λ x. x.answer) old) ∙ e'));
          accepted =
              λ e'. (
                ap (λ x. x.state) old ∙ ap state_with same-config ∙ sym (ap (λ x. x.state) new),
                ap (λ x. x.arena) old ∙ sym (ap (λ x. x.arena) new),
                ap (λ x. x.undo) old ∙ sym (ap (λ x. x.undo) new),
                ap (λ x. x.ids) old ∙ sym (ap (λ x. x.ids) new),
              );
        }
    by-verdict (Err q) v =
        let old = e ∙ start-refused _ q (same-rules ∙ v) in
        let new = start-refused (fresh h id) q v in
        record {
          answer = ap (λ x. x.answer) old ∙ sym (ap (λ x. x.answer) new);
          refused = λ q' e'. ap (λ x. memory m.text x.arena x.undo x.ids m.id) old;
          accepted = λ e'. absurd (pass-refuses (sym e' ∙ ap (λ x. x.answer) old));
        }

    pub sets-up : SetsUp h id r m (memory m.text arena' undo' ids' m.id)
    sets-up = by-verdict (start_rules (fresh h id)) refl

-- memory of the right sizes
pub lent-stores :
    (m : Memory) → length m.arena ≡ arena_size → length m.undo ≡ undo_size → length m.ids ≡ ids_size →
    stores m.arena m.undo m.ids ≡ true
unfolding stores_ok
lent-stores m arena undo ids = rw (eq-eqb _ _ arena, eq-eqb _ _ undo, eq-eqb _ _ ids)

-- ---- the line's answer

module _ (n : ℕ) (mode : Mode) (h : Host) (id : List ℕ) where
  line_refused : (q : Refusal) → (start_of (fresh h id)).answer ≡ Err q → (start_line n mode h id).session.mode ≡ mode
  unfolding start_line
  line_refused q e = rw e

  line-accepted :
      (start_of (fresh h id)).answer ≡ Ok tt →
      (start_line n mode h id).session.mode
      ≡ ready
      (unit (start_of (fresh h id)).state (replicate h.size 0) (start_of (fresh h id)).arena (start_of (fresh h id)).undo
      (start_of (fresh h id)).ids id)
  unfolding start_line
  line-accepted e = rw e

  pub line-out : (start_line n mode h id).out ≡ verdict_line (start_of (fresh h id)).answer
  unfolding start_line
  line-out = refl

-- of another build-id that is the same
pub set-up-with :
    {h : Host} {id id' : List ℕ} {r : Called} {m m' : Memory} → id ≡ id' → SetsUp h id r m m' → SetsUp h id' r m m'
set-up-with {h} {id} {id'} {r} {m} {m'} e x = subst (λ id. SetsUp h id r m m') e x

module _
    (c : Console) (s : State) (h : Host) (id : List ℕ) (m : Memory) (r : Called) (m' : Memory)
    (x : SetsUp h id r m m') where
  -- the answer is written
  line-written :
      (n : ℕ) (from to : List ℕ) → written to n ≡ writing from 0 (verdict_line r.verdict) →
      written to n ≡ writing from 0 (verdict_line (start_of (fresh h id)).answer)
  line-written n from to e = e ∙ ap (λ v. writing from 0 (verdict_line v)) x.answer

  -- refused, what stood stands
  stands :
      (p : Pending) (q : Refusal) → r.verdict ≡ Err q →
      mode_in c.mode (unit_in c s m') p
      ≡ (start_line c.lines (mode_in c.mode (unit_in c s m) p) h id).session.mode
  stands p q refused =
      rw (x.refused q refused)
      (sym (line_refused c.lines (mode_in c.mode (unit_in c s m) p) h id q (sym x.answer ∙ refused)))

  pub stands-starts :
      Within c → (q : Refusal) → r.verdict ≡ Err q → (n : ℕ) (from to : List ℕ) → written to n ≡ writing from 0 (verdict_line r.verdict) →
      Starts c s h id m (stepped c s n) m' from to
  stands-starts within q refused n from to out =
      record { lines = refl; mode = λ p. stands p q refused; out = line-written n from to out; within = within }

  -- accepted, the unit is the new one
  begins :
      (p : Pending) (t : Stepped) (text' id' new : List ℕ) (n : ℕ) → t ≡ begun c r.state h.size (length new) n → r.verdict ≡ Ok tt →
      new ≡ id → take h.size text' ≡ replicate h.size 0 → take (length new) id' ≡ new →
      mode_in t.console.mode (unit_in t.console t.state (memory text' m'.arena m'.undo m'.ids id')) p
      ≡ (start_line c.lines (mode_in c.mode (unit_in c s m) p) h id).session.mode
  begins p t text' id' new n e accepted given zeros kept =
      let same = x.accepted accepted in
      ap (λ t. mode_in t.console.mode (unit_in t.console t.state (memory text' m'.arena m'.undo m'.ids id')) p) e
      ∙ rw (kept, given, zeros, same.0, same.1, same.2, same.3)
      (sym (line-accepted c.lines (mode_in c.mode (unit_in c s m) p) h id (sym x.answer ∙ accepted)))

  pub begins-starts :
      h.size ≤ size_most → (t : Stepped) (text' id' new : List ℕ) (n : ℕ) → length new ≤ line_max →
      t ≡ begun c r.state h.size (length new) n → r.verdict ≡ Ok tt → new ≡ id →
      take h.size text' ≡ replicate h.size 0 → take (length new) id' ≡ new →
      (from to : List ℕ) → written to n ≡ writing from 0 (verdict_line r.verdict) →
      Starts c s h id m t (memory text' m'.arena m'.undo m'.ids id') from to
  begins-starts size t text' id' new n room e accepted given zeros kept from to out =
      record {
        lines = ap (λ t. t.console.lines) e;
        mode = λ p. begins p t text' id' new n e accepted given zeros kept;
        out = ap (λ t. written to t.written) e ∙ line-written n from to out;
        within =
            subst (λ t. Within t.console) (sym e)
            (record { text = size; id = room; name = omega arith; list = omega arith; file = omega arith });
      }
