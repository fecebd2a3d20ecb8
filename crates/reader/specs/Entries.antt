-- Document 01: "by a reader that holds the section's bytes and its position": the entries of a relocation section, by a cursor and by a reader.
use Rattle.std.specs.Prelude.{ℕ, ◌+◌, ◌*◌, ◌/◌, cond, List, ltb, length, Option, Some, None}
use Rattle.std.specs.Borrow.{Bor}
use Rattle.elf.specs.Layout.{relocation_size, relocation_of}
use Rattle.elf.specs.declared.Relocation.{Relocation}
use Rattle.reader.specs.declared.Reader.{Reader}
use Rattle.reader.specs.declared.cursor.Cursor.{Cursor}

abbrev pub cursor_at : ℕ → Cursor
cursor_at e = record { entry = e }

abbrev pub first : Cursor
first = cursor_at 0

-- how many whole entries there are
abbrev pub relocation_count : List ℕ → ℕ
relocation_count entries = length entries / relocation_size

-- the entry at a cursor and the cursor after it; nothing where no whole entry is left
abbrev pub Next : Type 0
Next = Option (Relocation × Cursor)

unfoldable pub next_of : List ℕ → Cursor → Next
next_of entries c =
    cond (ltb c.entry (relocation_count entries)) (Some (relocation_of entries (relocation_size * c.entry), cursor_at (c.entry + 1))) None

-- entry e and the cursor after it, or the end
abbrev pub next_from : List ℕ → ℕ → Next
next_from entries e = next_of entries (cursor_at e)

-- a reader of these bytes, at entry e
abbrev pub reader_at : Bor (List ℕ) → ℕ → Reader
reader_at bytes e = record { bytes = bytes; at = e }

-- what it answers
abbrev pub next_in : Reader → Next
next_in r = next_from r.bytes.now r.at
