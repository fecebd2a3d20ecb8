-- W2's examples: what the console writes, in the definitions' own bytes.
use Rattle.std.proofs.Common.{Ok, Err}
use Prim.Native.Nat.{◌-◌, ◌^◌}
use mathlib.Core.Path.{◌≡◌, refl}
use mathlib.Core.List.{[], ◌∷◌, ◌++◌}
use lib.ListN.{replicate}
use Rattle.words.specs.Number.{le_at, le}
use Rattle.words.specs.Scan.{scan}
use Rattle.words.specs.Splice.{part}
use Rattle.words.specs.Text.{ascii}
use Rattle.records.specs.Verdict.{refusal}
use Rattle.records.specs.declared.refusal.Place.TheVariants.{Nowhere, Entry}
use Rattle.records.specs.declared.refusal.Reason.TheVariants.{NotLoaded, Unsupported}
use Rattle.listing.specs.List.{buffers, listing}
use Rattle.script.specs.Decimal.{digits_up_to, decimal}
use Rattle.answers.specs.Answers.{
  bad_line,
  place_numbers,
  refusal_line,
  verdict_line,
  integer,
  status_word,
  status_line,
  got_line,
  head_line,
  entry_line,
  entry_lines,
  lines_after,
  list_lines,
}

-- `ok`, `no 2 0`, and a place of two numbers
pub accepted : verdict_line (Ok tt) ≡ ascii "ok\n"
unfolding verdict_line
accepted = refl

pub refused-nowhere : verdict_line (Err (refusal NotLoaded Nowhere)) ≡ ascii "no 2 0\n"
unfolding verdict_line refusal_line place_numbers decimal digits_up_to
refused-nowhere = refl

pub refused-at-an-entry : verdict_line (Err (refusal Unsupported (Entry 5 3))) ≡ ascii "no 95 5 3\n"
unfolding verdict_line refusal_line place_numbers decimal digits_up_to
refused-at-an-entry = refl

-- `checked 0`, and a result below 0
pub checked : got_line (Ok (record { status = 1; result = 0 })) ≡ ascii "checked 0\n"
unfolding got_line status_line status_word integer decimal digits_up_to
checked = refl

pub applied : got_line (Ok (record { status = 2; result = 2 ^ 32 - 11 })) ≡ ascii "applied -11\n"
unfolding got_line status_line status_word integer decimal digits_up_to
applied = refl

-- `bad line` with its number
pub bad : bad_line 4096 ≡ ascii "bad line 4096\n"
unfolding bad_line decimal digits_up_to
bad = refl

-- "for one payload just uploaded as p1, in all `version 1 count 1` and `p1 checked 0`"
pub listed-one :
    list_lines
    (listing (Ok (record { written = 1; left = 0; version = 1 }))
    (buffers (1 ∷ 0 ∷ 0 ∷ 0 ∷ 0 ∷ 0 ∷ 0 ∷ 0 ∷ []) (ascii "p1" ++ replicate 126 0) (3 ∷ 0 ∷ 0 ∷ 0 ∷ [])))
    ≡ ascii "version 1 count 1\np1 checked 0\n"
unfolding lines_after head_line entry_lines entry_line scan status_line status_word integer decimal digits_up_to le_at le part
listed-one = refl
