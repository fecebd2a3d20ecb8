-- What document 01's rules speak of: a section, a relocation that is made, a function record.
use Rattle.records.specs.declared.refusal.Reason.{Reason}
use Rattle.std.specs.Prelude.{ℕ, ◌*◌, ◌<◌, ◌≡◌, true, false, List, Result}
use Rattle.records.specs.declared.payload.Edit.{Edit}
use Rattle.elf.specs.Layout.{relocation_size, relocation_of}
use Rattle.elf.specs.declared.Relocation as elf
use Rattle.machine.specs.Host.{rule_of}
use Rattle.machine.specs.Machine.{Machine}
use Rattle.machine.specs.declared.fields.FieldType.{FieldType}
use Rattle.machine.specs.declared.processor.RelocationType.{RelocationType}
use Rattle.kinds.specs.Kinds.{has_type}
use Rattle.kinds.specs.declared.Kind.TheVariants.{Symbols}
use Rattle.object.specs.Sections.{section_count, sections, section_in, contents_of}
use Rattle.object.specs.declared.sections.SectionEntry.{SectionEntry}
use Rattle.payload.specs.RelocationHeaders.{relocation_header_ok}
use Rattle.linking.specs.Symbols.{symbol_value}
use Rattle.reader.specs.Entries.{relocation_count}
use Rattle.relocation.specs.Relocating.{area_of, field_address, is_relocating}
use Rattle.relocation.specs.declared.fields.Area.{Area}
use Rattle.functions.specs.Functions.{record_at, edits_of}
use Rattle.functions.specs.Pairs.{edit_in}
use Rattle.functions.specs.Records.{record_of, old_address_of}
use Rattle.functions.specs.declared.function.FunctionRecord.{FunctionRecord}
use Rattle.acceptance.specs.Stages.{Setting, kind_index, linking_for, placed_bytes, records_start, record_count, patching_of}

-- ---- sections

abbrev pub section : List ℕ → ℕ → SectionEntry
section file i = section_in (sections file) i

abbrev pub contents_at : List ℕ → ℕ → List ℕ
contents_at file i = contents_of file (section file i).header

-- section i is one whose name, flags and contents count: "section 0 is type 0", and "of a type 0 section only the type is consulted"
pub record Consults (file : List ℕ) (i : ℕ) : Type 0 where
  pub above : 0 < i
  pub below : i < section_count file
  pub typed : has_type 0 (section file i).header ≡ false

-- ---- relocations

-- entry e of section i is a relocation that is made: "by section index, then entry", of a section with a right header, where the target is not ignored
pub record Made (file : List ℕ) (i e : ℕ) : Type 0 where
  pub below : i < section_count file
  pub relocating : is_relocating (sections file) (section file i) ≡ true
  pub headed : relocation_header_ok (sections file) (section_count file) (kind_index file Symbols) (section file i) ≡ true
  pub counted : e < relocation_count (contents_at file i)

abbrev pub relocation_at : List ℕ → ℕ → ℕ → elf.Relocation
relocation_at file i e = relocation_of (contents_at file i) (relocation_size * e)

abbrev pub type_at : Machine → List ℕ → ℕ → ℕ → RelocationType
type_at m file i e = m.relocation (relocation_at file i e).r_type

-- where the section that the relocations of section i are made in stands, and its size
abbrev pub area_at : List ℕ → ℕ → Area
area_at file i = area_of (sections file) i

-- P
abbrev pub place_at : Setting → List ℕ → ℕ → ℕ → ℕ
place_at t file i e = field_address (linking_for t file) (area_at file i) (relocation_at file i e)

-- S, or why there is none
abbrev pub symbol_at : Setting → List ℕ → ℕ → ℕ → Result ℕ Reason
symbol_at t file i e = symbol_value (linking_for t file) (relocation_at file i e).r_symbol

-- what a field of this type gets where S is s
abbrev pub result_at : Setting → List ℕ → ℕ → ℕ → FieldType → ℕ → ℕ
result_at t file i e f s = (rule_of f).value s (relocation_at file i e).r_addend (place_at t file i e)

-- ---- function records

-- where record r begins in the placed bytes
abbrev pub start_at : List ℕ → ℕ → ℕ
start_at file r = record_at (records_start file) r

abbrev pub function_at : Setting → List ℕ → ℕ → FunctionRecord
function_at t file r = record_of (placed_bytes t file) (start_at file r)

-- its old address, or why there is none
abbrev pub old_address_at : Setting → List ℕ → ℕ → Result ℕ Reason
old_address_at t file r = old_address_of (patching_of t file) (function_at t file r)

-- the edit that record r asks for
abbrev pub edit_for : Setting → List ℕ → ℕ → Edit
edit_for t file r = edit_in (edits_of (patching_of t file) (records_start file) (record_count file)) r
