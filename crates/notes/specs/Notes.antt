-- Document 01: "Each of the two note sections is one note: sizes 4 and d (1 to 64), type 3, GNU and a zero, d bytes, zeros to a multiple of 4, nothing more." (W1)
use Rattle.records.specs.Refusal.{Verdict}
use Rattle.std.specs.Prelude.{ℕ, ◌+◌, ◌*◌, ◌/◌, Bool, cond, ◌&&◌, List, leb, eqb, length, drop, replicate, Ok}
use Rattle.words.specs.Order.{all_zero}
use Rattle.words.specs.Scan.{scan}
use Rattle.words.specs.Splice.{part, splice}
use Rattle.records.specs.Limits.{id_min, id_max}
use Rattle.records.specs.Verdict.{must, ◌then◌}
use Rattle.records.specs.declared.payload.BuildId.{BuildId}
use Rattle.records.specs.declared.refusal.Place.TheVariants.{Section}
use Rattle.elf.specs.Layout.{note_head_size, note_of}
use Rattle.elf.specs.declared.Note.{Note}
use Rattle.kinds.specs.Kinds.{is_note_kind}
use Rattle.object.specs.Sections.{section_in, contents_of}
use Rattle.object.specs.declared.sections.SectionEntry.{SectionEntry}

-- the length d of the id that a note holds
abbrev pub id_length : List ℕ → ℕ
id_length note = (note_of note).n_descsz

-- a multiple of 4
abbrev pub padded : ℕ → ℕ
padded d = 4 * ((d + 3) / 4)

-- "sizes 4 and d (1 to 64), type 3, GNU and a zero" (W1): the four bytes 47 4e 55 00
unfoldable pub note_head_ok : Note → Bool
note_head_ok head =
    eqb head.n_namesz 4
    && leb id_min head.n_descsz
    && leb head.n_descsz id_max
    && eqb head.n_type 3
    && eqb head.name 0x00554e47

-- "d bytes, zeros to a multiple of 4, nothing more"
unfoldable pub note_ok : List ℕ → Bool
note_ok note =
    leb note_head_size (length note)
    && note_head_ok (note_of note)
    && eqb (length note) (note_head_size + padded (id_length note))
    && all_zero (drop (note_head_size + id_length note) note)

-- the id: its bytes, and zeros after them
unfoldable pub id_in : List ℕ → BuildId
id_in note = record { bytes = splice (replicate id_max 0) 0 (part note note_head_size (id_length note)); length = id_length note }

abbrev pub one_note : List ℕ → List SectionEntry → ℕ → Verdict → Verdict
one_note file ss i rest =
    cond (is_note_kind (section_in ss i).kind) (must (note_ok (contents_of file (section_in ss i).header)) 22 (Section i)) (Ok tt)
    then rest

-- "notes by index"
unfoldable pub note_rules : List ℕ → List SectionEntry → ℕ → Verdict
note_rules file ss n = scan (one_note file ss) (Ok tt) 0 n
