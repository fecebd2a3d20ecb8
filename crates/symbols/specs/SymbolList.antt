-- Document 01, "The symbol list". The document's house format is called the symbol list format here.
use Rattle.std.specs.Prelude.{ℕ, zero, suc, ◌+◌, ◌<◌, ◌≡◌, Bool, cond, not, ◌&&◌, List, [], leb, eqb, length, get_or, Some, None, Option}
use Rattle.words.specs.Splice.{part}
use Rattle.words.specs.Number.{be_at}
use Rattle.words.specs.Name.{has_zero}
use Rattle.words.specs.Order.{equal, less}
use Rattle.symbols.specs.declared.Search.{Search}

-- "then per entry an 8-byte address, a 1-byte name length (1 to 127), the name": the entry of the list s that begins at position at
abbrev pub address_at : List ℕ → ℕ → ℕ
address_at s at = be_at 8 s at

abbrev pub name_length_at : List ℕ → ℕ → ℕ
name_length_at s at = get_or s (at + 8) 0

unfoldable pub name_at : List ℕ → ℕ → List ℕ
name_at s at = part s (at + 9) (name_length_at s at)

-- where the next entry begins
abbrev pub next_at : List ℕ → ℕ → ℕ
next_at s at = at + 9 + name_length_at s at

-- the entry's bytes are all there
unfoldable pub whole_at : List ℕ → ℕ → Bool
whole_at s at = leb (at + 9) (length s) && leb (next_at s at) (length s)

-- "(1 to 127)"
abbrev pub listed_name_max : ℕ
listed_name_max = 127

-- "a 1-byte name length (1 to 127), the name without zero bytes"
unfoldable pub entry_at : List ℕ → ℕ → Bool
entry_at s at = whole_at s at && leb 1 (name_length_at s at) && leb (name_length_at s at) listed_name_max && not (has_zero (name_at s at))

-- what reading an entry answers: its name's length, where the test holds
unfoldable pub entry_if : Bool → List ℕ → ℕ → Option ℕ
entry_if holds s at = cond holds (Some (name_length_at s at)) None

-- "Names strictly rise, compared bytewise; nothing follows the last": n entries from at on, where the name before them is last.
-- The first entry has the empty name before it, which is less than every name.
unfoldable pub entries_from : List ℕ → ℕ → ℕ → List ℕ → Bool
entries_from s zero at last = eqb at (length s)
entries_from s (suc n) at last = entry_at s at && less last (name_at s at) && entries_from s n (next_at s at) (name_at s at)

-- "a 2-byte entry count"
abbrev pub list_count : List ℕ → ℕ
list_count s = be_at 2 s 5

-- "a 4-byte big-endian count of the bytes that follow, version byte 1, a 2-byte entry count, then per entry .."
unfoldable pub valid : List ℕ → Bool
valid s =
    leb 7 (length s)
    && eqb (be_at 4 s 0 + 4) (length s)
    && eqb (get_or s 4 0) 1
    && entries_from s (list_count s) 7 []

-- the entry's address, where the test holds
abbrev pub found_if : Bool → List ℕ → ℕ → Option ℕ
found_if holds s at = cond holds (Some (address_at s at)) None

-- W3: "the list is in order, so stop at the first greater name". Of n whole entries from at on the first that is not smaller decides:
-- it has this name, or none has.
unfoldable pub lookup_from : List ℕ → List ℕ → ℕ → ℕ → Option ℕ
lookup_from s name zero at = None
lookup_from s name (suc n) at =
    cond (whole_at s at)
    (cond (less (name_at s at) name) (lookup_from s name n (next_at s at)) (found_if (equal (name_at s at) name) s at))
    None

-- W3: "Lookup also counts the entries it compares, exactly those up to the first not smaller", and with it; all where all are smaller
unfoldable pub compared_from : List ℕ → List ℕ → ℕ → ℕ → ℕ
compared_from s name zero at = 0
compared_from s name (suc n) at =
    cond (whole_at s at)
    (cond (less (name_at s at) name) (suc (compared_from s name n (next_at s at))) 1)
    0

-- "looked up by name in the list": its address, or it isn't there. Of bytes that are no valid list, the whole entries at the front are
-- searched by the same rule.
unfoldable pub lookup : List ℕ → List ℕ → Option ℕ
lookup s name = cond (leb 7 (length s)) (lookup_from s name (list_count s) 7) None

-- how many entries a lookup in the list compares: none in an empty one
unfoldable pub compared_entries : List ℕ → List ℕ → ℕ
compared_entries s name = cond (leb 7 (length s)) (compared_from s name (list_count s) 7) 0

-- what a lookup answers, of n entries from at on and of the list: what it finds, and how many entries it compares
unfoldable pub find_from : List ℕ → List ℕ → ℕ → ℕ → Search
find_from s name n at = record { found = lookup_from s name n at; compared = compared_from s name n at }

unfoldable pub find_of : List ℕ → List ℕ → Search
find_of s name = record { found = lookup s name; compared = compared_entries s name }

-- ---- what the laws `lookup-stays` and `lookup-listed` compare lookup with

-- lookup without W3, which goes on past greater names: the address of the first of n whole entries from at on that has this name
unfoldable pub first_named_from : List ℕ → List ℕ → ℕ → ℕ → Option ℕ
first_named_from s name zero at = None
first_named_from s name (suc n) at =
    cond (whole_at s at)
    (cond (equal (name_at s at) name) (Some (address_at s at)) (first_named_from s name n (next_at s at)))
    None

unfoldable pub first_named : List ℕ → List ℕ → Option ℕ
first_named s name = cond (leb 7 (length s)) (first_named_from s name (list_count s) 7) None

-- where the entry that stands k entries after the one at at begins
unfoldable pub entry_start : List ℕ → ℕ → ℕ → ℕ
entry_start s at zero = at
entry_start s at (suc k) = entry_start s (next_at s at) k

-- one of the n entries from at on has this name and this address
pub record Listed (s : List ℕ) (n at : ℕ) (name : List ℕ) (address : ℕ) : Type 0 where
  pub number : ℕ
  pub counted : number < n
  pub named : name_at s (entry_start s at number) ≡ name
  pub addressed : address_at s (entry_start s at number) ≡ address
