-- From what a call gave to what its line gives.
use Rattle.std.proofs.Common.{◌≡◌, ℕ, ◌≤◌, true, false, ◌&&◌, leb, List, [], ◌++◌, length, take, sym, refl, ap, ◌∙◌, subst, Some, Option}
use Rattle.state.specs.declared.state.Called.{Called}
use Rattle.state.specs.declared.state.State.{State}
use Rattle.actions.specs.Actions as actions
use Rattle.work.specs.Work as work
use Rattle.script.specs.Hex.{is_hex, hex_bytes}
use Rattle.script.specs.declared.command.Command.{Command}
use Rattle.script.specs.declared.command.Command.TheVariants.{
  Start,
  Upload,
  Get,
  List as Listing,
  Act,
  Report,
  Tick,
  Work,
}
use Rattle.script.specs.declared.command.Host.{Host}
use Rattle.script.specs.declared.command.Request.{Request}
use Rattle.answers.specs.Answers.{verdict_line, bad_line}
use Rattle.answers.specs.Written.{written, writing}
use Rattle.answers.proofs.Written.{none}
use Rattle.interpreter.specs.Lines.{
  Answer,
  answer,
  bad,
  line_max,
  kept_max,
  name_in,
  list_in,
  is_end,
  command_in,
  start_line,
  off_line,
  ready_line,
  act_line,
  called_line,
  work_line,
  upload_line,
  payload_line,
  dropped_line,
  line_of,
}
use Rattle.interpreter.specs.Session.{Pending, pending, Mode, off, ready, payload, session}
use Rattle.interpreter.specs.Parts.{Says, Holds, Starts, opened, grown, Ends, counted, with_mode, stepped}
use Rattle.interpreter.specs.Standing.{unit_in, pending_in, mode_in, standing, Within, Gives}
use Rattle.interpreter.specs.declared.buffers.Gathered.{Gathered}
use Rattle.interpreter.specs.declared.buffers.Memory.{Memory}
use Rattle.interpreter.specs.declared.console.Console.{Console}
use Rattle.interpreter.specs.declared.console.Mode as declared
use Rattle.interpreter.specs.declared.console.Stepped.{Stepped}
use Rattle.interpreter.specs.declared.console.Mode.TheVariants.{Off, Ready, Payload, Dropped}
use Rattle.interpreter.proofs.Bytes.{memory, gathered}
use Rattle.interpreter.proofs.Fresh.{line-out}

-- ---- a command

-- the console stays as it is
module _
    (c : Console) (within : Within c) (g : Gathered) (r : Stepped) (from to : List ℕ) (s : State) (m : Memory) (bytes : List ℕ)
    (says : Says c s bytes r from to) where
  pub gives :
      (a : Answer) → a ≡ answer c.lines (mode_in c.mode (unit_in c s m) (pending_in c g)) bytes → Gives a r m g from to
  gives a e =
      record {
        session = rw (says.console, says.state) (sym (ap (λ a. a.session) e));
        out = says.out ∙ ap (λ a. writing from 0 a.out) (sym e);
        within = subst Within (sym says.console) within;
      }

  -- and lines are commands
  pub gives-ready : c.mode ≡ Ready → (a : Answer) → a ≡ answer c.lines (ready (unit_in c s m)) bytes → Gives a r m g from to
  gives-ready mode a e = gives a (e ∙ rw mode)

module _ (c : Console) (s : State) (m : Memory) where
  pub act-line :
      (name : List ℕ) (q : Request) (called : Called) (m' : Memory) →
      actions.acted called (actions.lent m'.arena m'.undo m'.ids)
      ≡ actions.action_of s (take c.id m.id) (actions.lent m.arena m.undo m.ids) (actions.request name q.action q.time) →
      (m'.text ≡ m.text) × (m'.id ≡ m.id) →
      act_line c.lines (unit_in c s m) name q
      ≡ answer c.lines (ready (unit_in c called.state m')) (verdict_line called.verdict)
  unfolding act_line
  act-line name q called m' e kept = rw (← e, kept.0, kept.1)

  pub called-line :
      (called said : Called) → called ≡ said →
      called_line c.lines (unit_in c s m) said
      ≡ answer c.lines (ready (unit_in c called.state m)) (verdict_line called.verdict)
  unfolding called_line
  called-line called said e = rw e

  pub work-line :
      (called : Called) (text' undo' : List ℕ) →
      work.worked_with called (work.lent (take c.text text') undo') ≡ work.work_of s (work.lent (take c.text m.text) m.undo) →
      work_line c.lines (unit_in c s m)
      ≡ answer c.lines (ready (unit_in c called.state (memory text' m.arena undo' m.ids m.id))) (verdict_line called.verdict)
  unfolding work_line
  work-line called text' undo' e = rw (← e)

start-session :
    (n : ℕ) (mode : Mode) (h : Host) (id : List ℕ) → session n (start_line n mode h id).session.mode ≡ (start_line n mode h id).session
unfolding start_line
start-session n mode h id = refl

-- before a start-up has succeeded, no other command is read
pub off-bad : (n : ℕ) (line : List ℕ) (c : Command) → ((h : Host) → c ≡ Start h → ⊥) → off_line n line (Some c) ≡ bad n off
unfolding off_line
off-bad n line (Start h) other = absurd (other h refl)
off-bad n line Upload other = refl
off-bad n line Get other = refl
off-bad n line Listing other = refl
off-bad n line (Act q) other = refl
off-bad n line (Report cpu) other = refl
off-bad n line Tick other = refl
off-bad n line Work other = refl

-- a start-up, where the lines of a payload do not matter
pub start_gives :
    (c : Console) (s : State) (h : Host) (id : List ℕ) (m : Memory) (r : Stepped) (m' : Memory) (from to : List ℕ) (g : Gathered) (mode : Mode) →
    Starts c s h id m r m' from to → ((p : Pending) → mode_in c.mode (unit_in c s m) p ≡ mode) →
    Gives (start_line c.lines mode h id) r m' g from to
start_gives c s h id m r m' from to g mode x same =
    let p = pending_in r.console g in
    let new = x.mode p ∙ ap (λ mode. (start_line c.lines mode h id).session.mode) (same p) in
    record {
      session = rw x.lines (ap (session c.lines) new) ∙ start-session c.lines mode h id;
      out = x.out ∙ ap (writing from 0) (sym (line-out c.lines mode h id));
      within = x.within;
    }

-- ---- an upload

-- its payload follows
pub open_gives :
    (c : Console) (s : State) (m : Memory) (line : List ℕ) (g : Gathered) (out : List ℕ) (r : Stepped) → r ≡ opened c s r.console.name r.console.list →
    Holds g.name r.console.name (name_in line) → Holds g.list r.console.list (list_in line) → Within r.console →
    Gives (answer c.lines (payload (unit_in c s m) (pending (name_in line) (list_in line) [])) []) r m g out out
open_gives c s m line g out r e kept-name kept-list within =
    record {
      session =
          ap (λ t. standing t.console t.state m g) e
          ∙ rw (kept-name.same, kept-list.same);
      out = ap (λ t. written out t.written) e ∙ none out 0;
      within = within;
    }

module _ (c : Console) (s : State) (line : List ℕ) (r : Stepped) (from to : List ℕ) (within : Within c) (m : Memory) (g : Gathered) where
  -- at its end the loader answers
  pub ends-gives :
      (m' : Memory) → is_end line ≡ true → Ends c s (pending_in c g) m r m' from to →
      Gives (payload_line c.lines (unit_in c s m) (pending_in c g) line) r m' g from to
  unfolding payload_line upload_line
  ends-gives m' end x =
      record {
        session =
            rw (
              end,
              x.console,
              x.state,
              ← ap (λ l. l.arena) x.memory,
              ← ap (λ l. l.ids) x.memory,
              x.kept.0,
              x.kept.1,
              x.kept.2,
            );
        out = rw end x.out;
        within =
            subst Within (sym x.console)
            (record { text = within.text; id = within.id; name = within.name; list = within.list; file = within.file });
      }

  -- a line of hex is gathered
  pub gather-gives :
      (file' : List ℕ) → c.mode ≡ Payload → is_end line ≡ false → (leb (length line) line_max && is_hex line) ≡ true →
      r ≡ grown c s r.console.file → r.console.file ≤ kept_max →
      take r.console.file file' ≡ take kept_max (take c.file g.file ++ hex_bytes line) →
      Gives (payload_line c.lines (unit_in c s m) (pending_in c g) line) r m (gathered g.name g.list file') from from
  unfolding payload_line
  gather-gives file' mode end hex e few kept =
      record {
        session = rw (end, hex) (ap (λ t. standing t.console t.state m (gathered g.name g.list file')) e ∙ rw (mode, kept));
        out = rw (end, hex) (ap (λ t. written from t.written) e ∙ none from 0);
        within =
            subst (λ t. Within t.console) (sym e)
            (record { text = within.text; id = within.id; name = within.name; list = within.list; file = few });
      }

  -- any other line drops it
  pub drop-gives :
      is_end line ≡ false → (leb (length line) line_max && is_hex line) ≡ false → Says (with_mode c Dropped) s (bad_line c.lines) r from to →
      Gives (payload_line c.lines (unit_in c s m) (pending_in c g) line) r m g from to
  unfolding payload_line
  drop-gives end other says =
      record {
        session = rw (end, other, says.console, says.state);
        out = rw (end, other) says.out;
        within =
            subst Within (sym says.console)
            (record { text = within.text; id = within.id; name = within.name; list = within.list; file = within.file });
      }

  -- and its other lines are passed over
  pub closed-gives :
      is_end line ≡ true → Gives (dropped_line c.lines (unit_in c s m) line) (stepped (with_mode c Ready) s 0) m g from from
  unfolding dropped_line
  closed-gives end =
      record {
        session = rw end;
        out = none from 0;
        within = record { text = within.text; id = within.id; name = within.name; list = within.list; file = within.file };
      }

  pub passed-gives :
      c.mode ≡ Dropped → is_end line ≡ false → Gives (dropped_line c.lines (unit_in c s m) line) (stepped c s 0) m g from from
  unfolding dropped_line
  passed-gives mode end = record { session = rw (end, mode); out = none from 0; within = within }

-- ---- any line, which is counted first

module _ (c next : Console) (e : next ≡ counted c) where
  pub mode-kept : (mode : declared.Mode) → c.mode ≡ mode → next.mode ≡ mode
  mode-kept mode h = ap (λ c. c.mode) e ∙ h

  pub within-kept : Within c → Within next
  within-kept w =
      subst Within (sym e) (record { text = w.text; id = w.id; name = w.name; list = w.list; file = w.file })

  module _ (s : State) (m : Memory) (g : Gathered) (line : List ℕ) {r : Stepped} {m' : Memory} {g' : Gathered} {from to : List ℕ} where
    pub off-gives :
        (command : Option Command) → command ≡ command_in line → c.mode ≡ Off → Gives (off_line next.lines line command) r m' g' from to →
        Gives (line_of (standing c s m g) line) r m' g' from to
    unfolding line_of
    off-gives command read mode x =
        let same : off_line next.lines line command ≡ line_of (standing c s m g) line = rw (e, read, mode) in
        subst (λ a. Gives a r m' g' from to) same x

    pub ready-gives :
        (command : Option Command) → command ≡ command_in line → c.mode ≡ Ready →
        Gives (ready_line next.lines (unit_in next s m) line command) r m' g' from to →
        Gives (line_of (standing c s m g) line) r m' g' from to
    unfolding line_of
    ready-gives command read mode x =
        let same : ready_line next.lines (unit_in next s m) line command ≡ line_of (standing c s m g) line = rw (e, read, mode) in
        subst (λ a. Gives a r m' g' from to) same x

    pub payload-gives :
        c.mode ≡ Payload → Gives (payload_line next.lines (unit_in next s m) (pending_in next g) line) r m' g' from to →
        Gives (line_of (standing c s m g) line) r m' g' from to
    unfolding line_of
    payload-gives mode x =
        let same : payload_line next.lines (unit_in next s m) (pending_in next g) line ≡ line_of (standing c s m g) line = rw (e, mode) in
        subst (λ a. Gives a r m' g' from to) same x

    pub dropped-gives :
        c.mode ≡ Dropped → Gives (dropped_line next.lines (unit_in next s m) line) r m' g' from to →
        Gives (line_of (standing c s m g) line) r m' g' from to
    unfolding line_of
    dropped-gives mode x =
        let same : dropped_line next.lines (unit_in next s m) line ≡ line_of (standing c s m g) line = rw (e, mode) in
        subst (λ a. Gives a r m' g' from to) same x
