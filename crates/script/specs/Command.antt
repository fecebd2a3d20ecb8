-- W2: the lines that are commands, and what their numbers say. Names and hex strings are fields of the line.
use Rattle.std.specs.Prelude.{ℕ, ◌-◌, ◌^◌, cond, ◌&&◌, List, Some, None, Option}
use Rattle.std.specs.Bool.{then_some}
use Rattle.words.specs.Text.{ascii}
use Rattle.script.specs.Decimal.{number_of}
use Rattle.script.specs.Fields.{field_of, is_command, is_plain}
use Rattle.script.specs.Hex.{is_hex}
use Rattle.script.specs.declared.command.Command.{Command}
use Rattle.script.specs.declared.command.Command.TheVariants.{Start, Upload, Get, List as Listing, Act, Report, Tick, Work}

-- "below 2^32 (bases 2^64)"; "SIZE over 65,536 unreadable"
abbrev pub number_most : ℕ
number_most = 2 ^ 32 - 1

abbrev pub base_most : ℕ
base_most = 2 ^ 64 - 1

abbrev pub size_most : ℕ
size_most = 65536

-- what a number makes, where it is one
abbrev pub with_number : Option ℕ → (ℕ → Option Command) → Option Command
with_number (Some n) command = command n
with_number None command = None

-- "`start BASE SIZE ARENA CPUS ID`"
unfoldable pub start_in : List ℕ → Option Command
start_in line =
    with_number (number_of base_most (field_of line 1)) (λ base.
    with_number (number_of size_most (field_of line 2)) (λ size.
    with_number (number_of base_most (field_of line 3)) (λ arena.
    with_number (number_of number_most (field_of line 4)) (λ cpus.
    then_some (is_hex (field_of line 5)) (Start (record { base = base; size = size; arena = arena; cpus = cpus }))))))

-- "`upload NAME SYMBOLS`"
unfoldable pub upload_in : List ℕ → Option Command
upload_in line = then_some (is_plain (field_of line 1) && is_hex (field_of line 2)) Upload

-- "`get NAME`"
unfoldable pub get_in : List ℕ → Option Command
get_in line = then_some (is_plain (field_of line 1)) Get

-- "`act NAME COMMAND TIME`"
unfoldable pub act_in : List ℕ → Option Command
act_in line =
    with_number (number_of number_most (field_of line 2)) (λ action.
    with_number (number_of number_most (field_of line 3)) (λ time.
    then_some (is_plain (field_of line 1)) (Act (record { action = action; time = time }))))

-- "`report CPU`"
unfoldable pub report_in : List ℕ → Option Command
report_in line = with_number (number_of number_most (field_of line 1)) (λ cpu. Some (Report cpu))

-- the command of a line; any other line is unreadable
unfoldable pub command_of : List ℕ → Option Command
command_of line =
    cond (is_command line (ascii "start") 5) (start_in line)
    (cond (is_command line (ascii "upload") 2) (upload_in line)
    (cond (is_command line (ascii "get") 1) (get_in line)
    (cond (is_command line (ascii "list") 0) (Some Listing)
    (cond (is_command line (ascii "act") 3) (act_in line)
    (cond (is_command line (ascii "report") 1) (report_in line)
    (cond (is_command line (ascii "tick") 0) (Some Tick)
    (cond (is_command line (ascii "work") 0) (Some Work)
    None)))))))
