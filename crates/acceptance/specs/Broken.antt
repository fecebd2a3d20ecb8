-- The rule that a refusal's number and place name, and that it is broken: one line for each field of `Keeps`.
use Rattle.std.specs.Prelude.{ℕ, suc, ◌+◌, ◌≤◌, ◌<◌, ◌≡◌, true, false, List, leb, eqb, length, Err, Ok}
use Rattle.records.specs.Limits.{placed_max}
use Rattle.records.specs.Refusal.{number_of, Verdict}
use Rattle.records.specs.declared.refusal.Place.{Place}
use Rattle.records.specs.declared.refusal.Place.TheVariants.{Nowhere, Section, Entry, Record}
use Rattle.records.specs.declared.refusal.Reason.{Reason}
use Rattle.records.specs.declared.refusal.Refusal.{Refusal}
use Rattle.elf.specs.Layout.{file_header_of}
use Rattle.elf.specs.Name.{is_named}
use Rattle.machine.specs.Host.{rule_of}
use Rattle.machine.specs.declared.fields.FieldType.{FieldType}
use Rattle.machine.specs.declared.processor.RelocationType.TheVariants.{Stores, Unknown}
use Rattle.header.specs.Header.{size_ok, fields_ok, table_inside}
use Rattle.kinds.specs.Kinds.{has_type, is_kind, is_note_kind}
use Rattle.kinds.specs.declared.Kind as kind
use Rattle.kinds.specs.declared.Kind.TheVariants.{Records, Depends, BuildId, Symbols, Relocations}
use Rattle.object.specs.Sections.{section_count, sections, section_name, name_table_ok, known_type, known_flags, alignment_ok, contents_ok}
use Rattle.notes.specs.Notes.{note_ok}
use Rattle.payload.specs.Counts.{symbol_table_ok, records_size_ok}
use Rattle.payload.specs.RelocationHeaders.{relocation_header_ok}
use Rattle.placement.specs.Placement.{end_before}
use Rattle.functions.specs.Edits.{form_ok, jump_ok, fill_ok, in_text, addresses_ok}
use Rattle.functions.specs.Pairs.{touch}
use Rattle.acceptance.specs.Keeps.{Keeps}
use Rattle.acceptance.specs.Rules.{
  section,
  contents_at,
  Consults,
  Made,
  relocation_at,
  type_at,
  area_at,
  place_at,
  symbol_at,
  result_at,
  start_at,
  function_at,
  old_address_at,
  edit_for,
}
use Rattle.acceptance.specs.Stages.{
  Setting,
  machine_at,
  kind_count,
  kind_index,
  records_index,
  record_count,
  placed_bytes,
  patching_of,
}

pub data Broken (t : Setting) (file : List ℕ) : ℕ → Place → Type 0 where
  -- "8: file size or header"
  file_size : size_ok (length file) ≡ false → Broken t file 8 Nowhere
  header : fields_ok (machine_at t) (file_header_of file) ≡ false → Broken t file 8 Nowhere
  section_table : table_inside (file_header_of file) (length file) ≡ false → Broken t file 8 Nowhere
  -- "e_shstrndx (place 0)"
  name_table : name_table_ok file ≡ false → Broken t file 22 Nowhere
  -- "section 0 is type 0 (else 22, also where its type is unknown)"
  section_0 : has_type 0 (section file 0).header ≡ false → Broken t file 22 (Section 0)
  -- "name, type, flags, kind, alignment, contents": "Other types and bits get 95"; "Anything else is refused with 95"
  names : (i : ℕ) → Consults file i → is_named (section_name file i) ≡ false → Broken t file 22 (Section i)
  types : (i : ℕ) → Consults file i → known_type (section file i).header ≡ false → Broken t file 95 (Section i)
  flags : (i : ℕ) → Consults file i → known_flags (section file i).header ≡ false → Broken t file 95 (Section i)
  kinds : (i : ℕ) → Consults file i → is_kind (section file i).kind kind.TheVariants.Unknown ≡ true → Broken t file 95 (Section i)
  alignments : (i : ℕ) → Consults file i → alignment_ok (section file i).header ≡ false → Broken t file 22 (Section i)
  contents : (i : ℕ) → Consults file i → contents_ok (section file i).header (length file) ≡ false → Broken t file 22 (Section i)
  -- "place 0 for a wrong count, else the section": a section is named only where it is the one of its kind
  one_symbol_table : eqb (kind_count file Symbols) 1 ≡ false → Broken t file 22 Nowhere
  symbol_table :
      kind_count file Symbols ≡ 1 →
      symbol_table_ok (sections file) (section_count file) (section file (kind_index file Symbols)).header ≡ false →
      Broken t file 22 (Section (kind_index file Symbols))
  one_funcs : eqb (kind_count file Records) 1 ≡ false → Broken t file 22 Nowhere
  one_depends : eqb (kind_count file Depends) 1 ≡ false → Broken t file 22 Nowhere
  one_build_id : eqb (kind_count file BuildId) 1 ≡ false → Broken t file 22 Nowhere
  funcs_size :
      kind_count file Records ≡ 1 → records_size_ok (section file (records_index file)).header ≡ false →
      Broken t file 22 (Section (records_index file))
  -- "type 4 headers, notes by index"
  relocation_headers :
      (i : ℕ) → i < section_count file → kind_count file Symbols ≡ 1 → is_kind (section file i).kind Relocations ≡ true →
      relocation_header_ok (sections file) (section_count file) (kind_index file Symbols) (section file i) ≡ false →
      Broken t file 22 (Section i)
  notes :
      (i : ℕ) → i < section_count file → is_note_kind (section file i).kind ≡ true → note_ok (contents_at file i) ≡ false →
      Broken t file 22 (Section i)
  -- "placement (the section that passes 8,192)": what stands before it fits
  placed :
      (i : ℕ) → i < section_count file → end_before (sections file) i ≤ placed_max →
      leb (end_before (sections file) (suc i)) placed_max ≡ false → Broken t file 12 (Section i)
  -- "relocations (type, field, symbol, range)"
  relocation_types : (i e : ℕ) → Made file i e → type_at (machine_at t) file i e ≡ Unknown → Broken t file 95 (Entry i e)
  relocation_fields :
      (i e : ℕ) (f : FieldType) → Made file i e → type_at (machine_at t) file i e ≡ Stores f →
      leb ((relocation_at file i e).r_offset + (rule_of f).width) (area_at file i).size ≡ false →
      Broken t file 22 (Entry i e)
  relocation_places :
      (i e : ℕ) (f : FieldType) → Made file i e → type_at (machine_at t) file i e ≡ Stores f →
      (rule_of f).aligned (place_at t file i e) ≡ false → Broken t file 22 (Entry i e)
  relocation_symbols :
      (i e : ℕ) (f : FieldType) (reason : Reason) → Made file i e → type_at (machine_at t) file i e ≡ Stores f →
      symbol_at t file i e ≡ Err reason → Broken t file (number_of reason) (Entry i e)
  relocation_ranges :
      (i e s : ℕ) (f : FieldType) (reason : Reason) → Made file i e → type_at (machine_at t) file i e ≡ Stores f →
      symbol_at t file i e ≡ Ok s → (rule_of f).fault (result_at t file i e f s) ≡ Err reason →
      Broken t file (number_of reason) (Entry i e)
  -- "records (name's 22, 3, all other 22, 34), pairs"
  function_names :
      (r : ℕ) (reason : Reason) → r < record_count file → old_address_at t file r ≡ Err reason →
      Broken t file (number_of reason) (Record r)
  function_forms :
      (r : ℕ) → r < record_count file → form_ok (placed_bytes t file) (start_at file r) (function_at t file r) ≡ false →
      Broken t file 22 (Record r)
  function_texts :
      (r old : ℕ) → r < record_count file → old_address_at t file r ≡ Ok old →
      in_text (patching_of t file) old (function_at t file r) ≡ false → Broken t file 22 (Record r)
  function_places :
      (r old : ℕ) → r < record_count file → old_address_at t file r ≡ Ok old →
      addresses_ok (patching_of t file) old (function_at t file r) ≡ false → Broken t file 22 (Record r)
  function_jumps :
      (r : ℕ) → r < record_count file → eqb (function_at t file r).new_addr 0 ≡ false →
      jump_ok (patching_of t file) (function_at t file r) ≡ false → Broken t file 22 (Record r)
  function_fills :
      (r : ℕ) → r < record_count file → eqb (function_at t file r).new_addr 0 ≡ true →
      fill_ok (patching_of t file) (function_at t file r) ≡ false → Broken t file 22 (Record r)
  function_reach :
      (r old : ℕ) → r < record_count file → eqb (function_at t file r).new_addr 0 ≡ false → old_address_at t file r ≡ Ok old →
      (machine_at t).reaches ((machine_at t).displacement old (function_at t file r).new_addr) ≡ false →
      Broken t file 34 (Record r)
  -- "at the later record (lowest later record first)": no two records before it touch
  pairs :
      (i j : ℕ) → i < j → j < record_count file →
      ((a b : ℕ) → a < b → b < j → touch (edit_for t file a) (edit_for t file b) ≡ false) →
      touch (edit_for t file i) (edit_for t file j) ≡ true → Broken t file 22 (Record j)

-- what a verdict on a payload says: accepted exactly when every rule is kept, refused with the number and the place of a broken one
pub record Exact (t : Setting) (file : List ℕ) (verdict : Verdict) : Type 0 where
  pub accepted : verdict ≡ Ok tt → Keeps t file
  pub kept : Keeps t file → verdict ≡ Ok tt
  pub refused : (r : Refusal) → verdict ≡ Err r → Broken t file (number_of r.reason) r.place
