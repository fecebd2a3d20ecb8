-- Document 01: "The limits of a payload stand once, with the payload's own kind". Every definition takes them from here.
-- Three of them are those of document 02, W1: the file, the function records and the ids.
use Rattle.std.specs.Prelude.{ℕ}
use Rattle.records.specs.declared.payload.Limits.{Limits}

-- "file 64 to 32,768 bytes" (W1)
abbrev pub file_min : ℕ
file_min = 64

abbrev pub file_max : ℕ
file_max = 32768

-- "64 sections"
abbrev pub sections_max : ℕ
sections_max = 64

-- "32 function records" (W1)
abbrev pub records_max : ℕ
records_max = 32

-- "64 bytes, 1 to 32 of them" (W1): the bytes of a function record
abbrev pub record_size : ℕ
record_size = 64

-- "8,192 placed bytes"
abbrev pub placed_max : ℕ
placed_max = 8192

-- "id 1 to 64 bytes" (W1)
abbrev pub id_min : ℕ
id_min = 1

abbrev pub id_max : ℕ
id_max = 64

-- "Names have 2 to 128 bytes"
abbrev pub name_min : ℕ
name_min = 2

abbrev pub name_max : ℕ
name_max = 128

-- all of them, as the code has them
unfoldable pub all_limits : Limits
all_limits =
    record {
      file_min = file_min;
      file_max = file_max;
      sections_max = sections_max;
      records_max = records_max;
      record_size = record_size;
      placed_max = placed_max;
      id_min = id_min;
      id_max = id_max;
      name_min = name_min;
      name_max = name_max;
    }
