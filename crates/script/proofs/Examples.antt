-- Lines at the edges of W2's rules, read.
use Rattle.std.proofs.Common.{Some, None}
use mathlib.Core.Path.{◌≡◌, refl}
use Rattle.words.specs.Find.{every}
use Rattle.words.specs.Order.{equal}
use Rattle.words.specs.Text.{ascii}
use Rattle.script.specs.Command.{start_in, upload_in, get_in, act_in, report_in, command_of}
use Rattle.script.specs.Decimal.{value_from, number_of}
use Rattle.script.specs.Fields.{fields_of, field_of, is_plain, is_command}
use Rattle.script.specs.Hex.{is_hex}
use Rattle.script.specs.declared.command.Command.TheVariants.{Start, Upload, Get, Act, Report, Tick}

pub start-read :
    command_of (ascii "start 18446744073709551615 65536 0 2 00ff")
    ≡ Some (Start (record { base = 18446744073709551615; size = 65536; arena = 0; cpus = 2 }))
unfolding command_of start_in is_command field_of fields_of equal number_of value_from is_plain every is_hex
start-read = refl

-- SIZE one over, a base one over
pub start-too-large : command_of (ascii "start 0 65537 0 2 00ff") ≡ None
unfolding command_of start_in is_command field_of fields_of equal number_of value_from is_plain every is_hex
start-too-large = refl

pub start-base-too-large : command_of (ascii "start 18446744073709551616 1 0 2 00ff") ≡ None
unfolding command_of start_in is_command field_of fields_of equal number_of value_from is_plain every is_hex
start-base-too-large = refl

-- upper case, and an odd digit
pub upload-read : command_of (ascii "upload p1 0a") ≡ Some Upload
unfolding command_of upload_in is_command field_of fields_of equal is_plain every is_hex
upload-read = refl

pub upload-upper-case : command_of (ascii "upload p1 0A") ≡ None
unfolding command_of upload_in is_command field_of fields_of equal is_plain every is_hex
upload-upper-case = refl

pub upload-odd : command_of (ascii "upload p1 0a0") ≡ None
unfolding command_of upload_in is_command field_of fields_of equal is_plain every is_hex
upload-odd = refl

-- an empty field
pub get-read : command_of (ascii "get p1") ≡ Some Get
unfolding command_of get_in is_command field_of fields_of equal is_plain
get-read = refl

pub get-empty-field : command_of (ascii "get  p1") ≡ None
unfolding command_of get_in is_command field_of fields_of equal is_plain
get-empty-field = refl

pub get-nothing : command_of (ascii "get ") ≡ None
unfolding command_of get_in is_command field_of fields_of equal is_plain
get-nothing = refl

-- numbers at their bound, with zeros in front
pub act-read : command_of (ascii "act p1 3 000") ≡ Some (Act (record { action = 3; time = 0 }))
unfolding command_of act_in is_command field_of fields_of equal number_of value_from is_plain every
act-read = refl

pub report-most : command_of (ascii "report 4294967295") ≡ Some (Report 4294967295)
unfolding command_of report_in is_command field_of fields_of equal number_of value_from is_plain every
report-most = refl

pub report-too-large : command_of (ascii "report 4294967296") ≡ None
unfolding command_of report_in is_command field_of fields_of equal number_of value_from is_plain every
report-too-large = refl

pub tick-read : command_of (ascii "tick") ≡ Some Tick
unfolding command_of is_command field_of fields_of equal
tick-read = refl

pub tick-with-a-space : command_of (ascii "tick ") ≡ None
unfolding command_of is_command field_of fields_of equal
tick-with-a-space = refl
