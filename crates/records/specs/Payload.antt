-- The record of a payload: the empty one, and one with a name.
use Rattle.std.specs.Prelude.{ℕ, List, [], length, replicate}
use Rattle.words.specs.Splice.{splice}
use Rattle.records.specs.declared.payload.BuildId.{BuildId}
use Rattle.records.specs.declared.payload.Edit.{Edit}
use Rattle.records.specs.declared.payload.EditKind.TheVariants.{Fill}
use Rattle.records.specs.declared.payload.Payload.{Payload}
use Rattle.records.specs.Limits.{name_max, id_max, records_max}

abbrev pub no_edit : Edit
no_edit = record { offset = 0; length = 0; kind = Fill }

unfoldable pub no_id : BuildId
no_id = record { bytes = replicate id_max 0; length = 0 }

-- document 01: "A name is kept in 128 bytes, zero after its end"
unfoldable pub kept_name : List ℕ → List ℕ
kept_name name = splice (replicate name_max 0) 0 name

-- the record of a payload with this name and nothing else
unfoldable pub named : List ℕ → Payload
named name =
    record {
      name = kept_name name;
      name_length = length name;
      slot = 0;
      status = 0;
      result = 0;
      id_length = 0;
      dependency = no_id;
      edits = replicate records_max no_edit;
      edit_count = 0;
    }

-- the record of no payload
unfoldable pub empty : Payload
empty = named []
