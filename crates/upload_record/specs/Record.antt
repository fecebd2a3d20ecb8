-- The record of a payload that was prepared, and the state with it.
use Rattle.std.specs.Prelude.{ℕ, ◌+◌, ◌%◌, ◌^◌, List, length, slice_set}
use Rattle.records.specs.Payload.{kept_name}
use Rattle.records.specs.declared.payload.Payload.{Payload}
use Rattle.state.specs.State.{checked, with_payloads, with_count, with_version}
use Rattle.state.specs.declared.state.State.{State}
use Rattle.prepare.specs.declared.prepare.Prepared.{Prepared}

-- the payload's record: "Status: 1 checked", "The last result starts at 0"
abbrev pub record_for : List ℕ → ℕ → Prepared → Payload
record_for name slot p =
    record {
      name = kept_name name;
      name_length = length name;
      slot = slot;
      status = checked;
      result = 0;
      id_length = p.id.length;
      dependency = p.dependency;
      edits = p.edits;
      edit_count = p.edit_count;
    }

-- it is put last in the list; "Version .. grows by 1 modulo 2^32 at each accepted upload or unload"
abbrev pub with_uploaded : State → Payload → State
with_uploaded s p =
    with_version ((s.version + 1) % 2 ^ 32) (with_count (s.count + 1) (with_payloads (slice_set s.payloads s.count p) s))
