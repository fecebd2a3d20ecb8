-- W2: the lines that the console answers with, "each ended by a line feed".
use Rattle.std.specs.Prelude.{ℕ, ◌+◌, ◌-◌, ◌*◌, ◌^◌, cond, List, [], ◌∷◌, ◌++◌, eqb, ltb, take, Result, Ok, Err}
use Rattle.words.specs.Number.{le_at}
use Rattle.words.specs.Scan.{scan}
use Rattle.words.specs.Splice.{part}
use Rattle.words.specs.Text.{ascii}
use Rattle.records.specs.Limits.{name_max}
use Rattle.records.specs.Refusal.{number_of, Verdict}
use Rattle.records.specs.Verdict.{decide}
use Rattle.records.specs.declared.refusal.Place.{Place}
use Rattle.records.specs.declared.refusal.Place.TheVariants.{Nowhere, Section, Entry, Record}
use Rattle.records.specs.declared.refusal.Refusal.{Refusal}
use Rattle.queries.specs.declared.get.Got.{Got}
use Rattle.listing.specs.List.{Buffers, Listing}
use Rattle.listing.specs.declared.Listed.{Listed}
use Rattle.script.specs.Decimal.{decimal}
use Rattle.script.specs.Fields.{space}

-- a line with its line feed
abbrev pub ended : List ℕ → List ℕ
ended s = s ++ (10 ∷ [])

-- "`bad line` with its number"
unfoldable pub bad_line : ℕ → List ℕ
bad_line n = ended (ascii "bad line " ++ decimal n)

-- "place's numbers": a section, an entry of a section, a function record, "0 else"
unfoldable pub place_numbers : Place → List ℕ
place_numbers Nowhere = decimal 0
place_numbers (Section i) = decimal i
place_numbers (Entry i e) = decimal i ++ (space ∷ []) ++ decimal e
place_numbers (Record r) = decimal r

-- "`no 2 0` (number, place's numbers)"
unfoldable pub refusal_line : Refusal → List ℕ
refusal_line r = ended (ascii "no " ++ decimal (number_of r.reason) ++ (space ∷ []) ++ place_numbers r.place)

-- "`ok`", or the refusal
unfoldable pub verdict_line : Verdict → List ℕ
verdict_line v = decide refusal_line (ended (ascii "ok")) v

-- a number of 32 bits, read as signed
unfoldable pub integer : ℕ → List ℕ
integer x = cond (ltb x (2 ^ 31)) (decimal x) (ascii "-" ++ decimal (2 ^ 32 - x))

-- "Status: 1 checked, 2 applied."
unfoldable pub status_word : ℕ → List ℕ
status_word status = cond (eqb status 2) (ascii "applied") (ascii "checked")

-- "`checked 0`"
unfoldable pub status_line : ℕ → ℕ → List ℕ
status_line status result = ended (status_word status ++ (space ∷ []) ++ integer result)

-- what get answers
unfoldable pub got_line : Result Got Refusal → List ℕ
got_line (Ok g) = status_line g.status g.result
got_line (Err r) = refusal_line r

-- "`version 1 count 1`"
unfoldable pub head_line : ℕ → ℕ → List ℕ
head_line version count = ended (ascii "version " ++ decimal version ++ ascii " count " ++ decimal count)

-- entry j of the three buffers that list wrote: the name without its zero, status and result
unfoldable pub entry_line : Buffers → ℕ → List ℕ
entry_line b j =
    take (le_at 4 b.lengths (4 * j) - 1) (part b.names (name_max * j) name_max)
    ++ (space ∷ [])
    ++ status_line (le_at 4 b.statuses (8 * j)) (le_at 4 b.statuses (8 * j + 4))

-- "one line per payload"
unfoldable pub entry_lines : Buffers → ℕ → List ℕ
entry_lines b n = scan (λ j rest. entry_line b j ++ rest) [] 0 n

-- "List writes a head line and one line per payload"
unfoldable pub lines_after : Buffers → Result Listed Refusal → List ℕ
lines_after b (Ok x) = head_line x.version x.written ++ entry_lines b x.written
lines_after b (Err r) = refusal_line r

abbrev pub list_lines : Listing → List ℕ
list_lines x = lines_after x.after x.answer
