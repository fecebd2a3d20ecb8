-- Document 01, "When the loader says no": each case's number, and what a place prints.
use Rattle.std.specs.Prelude.{ℕ, ◌+◌, ◌*◌, ◌^◌, cond, eqb, Result, Ok, Err}
use Rattle.records.specs.declared.refusal.Reason.{Reason}
use Rattle.records.specs.declared.refusal.Reason.TheVariants.{
  NotLoaded,
  NotListed,
  TooMany,
  BadHeader,
  NoRoom,
  Busy,
  Loaded,
  Invalid,
  WrongBase,
  OutOfRange,
  Unsupported,
}
use Rattle.records.specs.declared.refusal.Place.{Place}
use Rattle.records.specs.declared.refusal.Place.TheVariants.{Nowhere, Section, Entry, Record}
use Rattle.records.specs.declared.refusal.Refusal.{Refusal}

-- the table, row by row
abbrev pub number_of : Reason → ℕ
-- "no payload of that name"
number_of NotLoaded = 2
-- "a used symbol or function name isn't in the list"; of symbols "for other bindings only" than weak (W4)
number_of NotListed = 3
-- "list with nr over 8"
number_of TooMany = 7
-- "file size or header"
number_of BadHeader = 8
-- "no free slot; placed bytes over 8,192"
number_of NoRoom = 12
-- "a job stands: actions 2 to 4, or unload of its payload; work before all are held"
number_of Busy = 16
-- "name loaded already"
number_of Loaded = 17
-- "every other broken rule; wrong status; idx over the count; CPU number; report, tick or work with no job"
number_of Invalid = 22
-- "wrong dependency; revert of one that isn't top"
number_of WrongBase = 33
-- "a 4-byte value out of range"
number_of OutOfRange = 34
-- "as named above": what the loader does not know
number_of Unsupported = 95

-- the reason that has this number
abbrev pub reason_for : ℕ → Reason
reason_for number =
    cond (eqb number (number_of NotLoaded)) NotLoaded
    (cond (eqb number (number_of NotListed)) NotListed
    (cond (eqb number (number_of TooMany)) TooMany
    (cond (eqb number (number_of BadHeader)) BadHeader
    (cond (eqb number (number_of NoRoom)) NoRoom
    (cond (eqb number (number_of Busy)) Busy
    (cond (eqb number (number_of Loaded)) Loaded
    (cond (eqb number (number_of WrongBase)) WrongBase
    (cond (eqb number (number_of OutOfRange)) OutOfRange
    (cond (eqb number (number_of Unsupported)) Unsupported
    Invalid)))))))))

-- "a place: section, or relocation section and entry, or record; 0 else"
abbrev pub place_kind : Place → ℕ
place_kind Nowhere = 0
place_kind (Section i) = 1
place_kind (Entry i e) = 2
place_kind (Record r) = 3

abbrev pub place_first : Place → ℕ
place_first Nowhere = 0
place_first (Section i) = i
place_first (Entry i e) = i
place_first (Record r) = r

abbrev pub place_second : Place → ℕ
place_second Nowhere = 0
place_second (Section i) = 0
place_second (Entry i e) = e
place_second (Record r) = 0

-- a refusal in one number, as the C boundary returns it
unfoldable pub refusal_code : Refusal → ℕ
refusal_code r =
    number_of r.reason
    + 2 ^ 8 * place_kind r.place
    + 2 ^ 16 * place_first r.place
    + 2 ^ 32 * place_second r.place

-- what a check says: nothing against it, or why not
abbrev pub Verdict : Type 0
Verdict = Result (Unit {0}) Refusal

-- a verdict in one number: 0 is no refusal
abbrev pub verdict_code : Verdict → ℕ
verdict_code (Ok _) = 0
verdict_code (Err r) = refusal_code r
