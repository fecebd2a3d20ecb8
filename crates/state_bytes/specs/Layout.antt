-- Where each part of the state stands in the records buffer. All numbers are little-endian, in 4 bytes where nothing else is said; sizes come
-- from the payload's limits.
use Rattle.std.specs.Prelude.{ℕ, ◌+◌, ◌*◌}
use Rattle.records.specs.Limits.{name_max, id_max, records_max}
use Rattle.memory.specs.Config.{cpus_max}
use Rattle.memory.specs.Memory.{slot_count}

-- an edit: offset, length, kind, and displacement in 8 bytes
abbrev pub edit_size : ℕ
edit_size = 20

-- a payload: its name; the lengths of name, id and dependency, slot, status and result; its dependency; the number of its edits, and the edits
abbrev pub dependency_place : ℕ
dependency_place = name_max + 24

abbrev pub edit_count_place : ℕ
edit_count_place = dependency_place + id_max

abbrev pub edits_place : ℕ
edits_place = edit_count_place + 4

abbrev pub payload_size : ℕ
payload_size = edits_place + edit_size * records_max

-- the buffer: start-up's numbers; the counts and the version; the job, with a byte for each CPU; the stack; the payloads
abbrev pub count_place : ℕ
count_place = 32

abbrev pub job_place : ℕ
job_place = count_place + 20

abbrev pub held_place : ℕ
held_place = job_place + 16

abbrev pub stack_place : ℕ
stack_place = held_place + cpus_max

abbrev pub payloads_place : ℕ
payloads_place = stack_place + 4 * slot_count

abbrev pub records_size : ℕ
records_size = payloads_place + payload_size * slot_count
