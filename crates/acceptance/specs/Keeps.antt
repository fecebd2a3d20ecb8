-- Document 01's rules of a payload, without order: one field for each sentence. A payload is accepted exactly when it keeps them all.
-- `Keeps`, at the end, is all of them.
use Rattle.std.specs.Prelude.{ℕ, ◌+◌, ◌≤◌, ◌<◌, ◌≡◌, true, false, List, eqb, length, Ok}
use Rattle.records.specs.Limits.{placed_max}
use Rattle.elf.specs.Layout.{file_header_of}
use Rattle.elf.specs.Name.{is_named}
use Rattle.machine.specs.Host.{rule_of}
use Rattle.machine.specs.Machine.{Machine}
use Rattle.machine.specs.declared.fields.FieldType.{FieldType}
use Rattle.machine.specs.declared.processor.RelocationType.TheVariants.{Stores, Unknown}
use Rattle.header.specs.Header.{size_ok, fields_ok, table_inside}
use Rattle.kinds.specs.Kinds.{has_type, is_kind, is_note_kind}
use Rattle.kinds.specs.declared.Kind as kind
use Rattle.kinds.specs.declared.Kind.TheVariants.{Records, Depends, BuildId, Symbols, Relocations}
use Rattle.object.specs.Sections.{section_count, sections, section_name, name_table_ok, known_type, known_flags, alignment_ok, contents_ok}
use Rattle.notes.specs.Notes.{note_ok}
use Rattle.payload.specs.Counts.{symbol_table_ok, records_size_ok}
use Rattle.payload.specs.RelocationHeaders.{relocation_header_ok}
use Rattle.functions.specs.Edits.{form_ok, jump_ok, fill_ok, in_text, addresses_ok}
use Rattle.functions.specs.Pairs.{touch}
use Rattle.acceptance.specs.Rules.{
  section,
  contents_at,
  Consults,
  Made,
  relocation_at,
  type_at,
  area_at,
  place_at,
  symbol_at,
  result_at,
  start_at,
  function_at,
  old_address_at,
  edit_for,
}
use Rattle.acceptance.specs.Stages.{
  Setting,
  machine_at,
  kind_count,
  kind_index,
  placed_length,
  records_index,
  record_count,
  placed_bytes,
  patching_of,
}

-- ---- "Reading a payload", up to the notes

pub record KeepsReading (m : Machine) (file : List ℕ) : Type 0 where
  -- "file 64 to 32,768 bytes" (W1)
  pub file_size : size_ok (length file) ≡ true
  -- "magic, class 2, data 1, ident version 1, e_type 1, e_machine 62, e_version 1, e_shentsize 64, 1 to 64 sections"
  pub header : fields_ok m (file_header_of file) ≡ true
  -- "section table inside the file"
  pub section_table : table_inside (file_header_of file) (length file) ≡ true
  -- "e_shstrndx, which names a type 3 section with contents inside the file"
  pub name_table : name_table_ok file ≡ true
  -- "section 0 is type 0"
  pub section_0 : has_type 0 (section file 0).header ≡ true
  -- "Names end by a zero byte within their table."
  pub names : (i : ℕ) → Consults file i → is_named (section_name file i) ≡ true
  -- "Types 0, 1, 2, 3, 4, 7, 8 are known."
  pub types : (i : ℕ) → Consults file i → known_type (section file i).header ≡ true
  -- "Flag bits 0x1, 0x2, 0x4, 0x10, 0x20, 0x40 are known."
  pub flags : (i : ℕ) → Consults file i → known_flags (section file i).header ≡ true
  -- "Anything else is refused with 95, hooks, exception tables and alternatives included."
  pub kinds : (i : ℕ) → Consults file i → is_kind (section file i).kind kind.TheVariants.Unknown ≡ false
  -- "Alignment is 0, 1 or a power of two up to 4,096."
  pub alignments : (i : ℕ) → Consults file i → alignment_ok (section file i).header ≡ true
  -- "Contents lie inside the file (offset plus size at most the file's; not for types 0 and 8)."
  pub contents : (i : ℕ) → Consults file i → contents_ok (section file i).header (length file) ≡ true
  -- "There is exactly one type 2 section"
  pub one_symbol_table : kind_count file Symbols ≡ 1
  -- "(entry size 24, size a multiple of it, link to a type 3)"
  pub symbol_table : symbol_table_ok (sections file) (section_count file) (section file (kind_index file Symbols)).header ≡ true
  -- "and exactly one of each named .livepatch.funcs, depends and build-id"
  pub one_funcs : kind_count file Records ≡ 1
  pub one_depends : kind_count file Depends ≡ 1
  pub one_build_id : kind_count file BuildId ≡ 1
  -- "64 bytes, 1 to 32 of them" (W1)
  pub funcs_size : records_size_ok (section file (records_index file)).header ≡ true
  -- "Type 4 sections: link to the symbol table, entry size 24, size a multiple of it. The target (sh_info) is either .., or .."
  pub relocation_headers :
      (i : ℕ) → i < section_count file → is_kind (section file i).kind Relocations ≡ true →
      relocation_header_ok (sections file) (section_count file) (kind_index file Symbols) (section file i) ≡ true
  -- "Each of the two note sections is one note: .."
  pub notes : (i : ℕ) → i < section_count file → is_note_kind (section file i).kind ≡ true → note_ok (contents_at file i) ≡ true

-- ---- relocations

pub record KeepsRelocations (t : Setting) (file : List ℕ) : Type 0 where
  -- "Types: 0 ..; 1 ..; 2 and 4 ... Others: 95."
  pub relocation_types : (i e : ℕ) → Made file i e → type_at (machine_at t) file i e ≡ Unknown → ⊥
  -- "The stored field lies inside its section."
  pub relocation_fields :
      (i e : ℕ) (f : FieldType) → Made file i e → type_at (machine_at t) file i e ≡ Stores f →
      (relocation_at file i e).r_offset + (rule_of f).width ≤ (area_at file i).size
  -- and stands where the machine lets it
  pub relocation_places :
      (i e : ℕ) (f : FieldType) → Made file i e → type_at (machine_at t) file i e ≡ Stores f →
      (rule_of f).aligned (place_at t file i e) ≡ true
  -- "S: symbol 0 is 0, other numbers lie in the table; ..": each relocation's symbol has a value
  pub relocation_symbols :
      (i e : ℕ) (f : FieldType) → Made file i e → type_at (machine_at t) file i e ≡ Stores f →
      (s : ℕ) × (symbol_at t file i e ≡ Ok s)
  -- "A 4-byte result must, read as signed 64-bit, lie in -2^31 to 2^31 - 1."
  pub relocation_ranges :
      (i e s : ℕ) (f : FieldType) → Made file i e → type_at (machine_at t) file i e ≡ Stores f → symbol_at t file i e ≡ Ok s →
      (rule_of f).fault (result_at t file i e f s) ≡ Ok tt

-- ---- "Function records"

pub record KeepsFunctions (t : Setting) (file : List ℕ) : Type 0 where
  -- "old_addr 0: name points into the placed bytes at 1 to 127 bytes ended by zero, and is looked up"
  pub function_names : (r : ℕ) → r < record_count file → (old : ℕ) × (old_address_at t file r ≡ Ok old)
  -- "version 1; 31 zero bytes"
  pub function_forms : (r : ℕ) → r < record_count file → form_ok (placed_bytes t file) (start_at file r) (function_at t file r) ≡ true
  -- "The edit and all of old_size lie in text, by ordinary sums."
  pub function_texts :
      (r old : ℕ) → r < record_count file → old_address_at t file r ≡ Ok old → in_text (patching_of t file) old (function_at t file r) ≡ true
  -- old and new code stand where the machine lets them
  pub function_places :
      (r old : ℕ) → r < record_count file → old_address_at t file r ≡ Ok old → addresses_ok (patching_of t file) old (function_at t file r) ≡ true
  -- "new_addr not 0: new_size at least 1, old_size at least 5, new code inside the placed bytes."
  pub function_jumps :
      (r : ℕ) → r < record_count file → eqb (function_at t file r).new_addr 0 ≡ false →
      jump_ok (patching_of t file) (function_at t file r) ≡ true
  -- "new_addr 0: new_size 1 to 31, at most old_size."
  pub function_fills :
      (r : ℕ) → r < record_count file → eqb (function_at t file r).new_addr 0 ≡ true →
      fill_ok (patching_of t file) (function_at t file r) ≡ true
  -- "new_addr - (old address + 5) in 4 bytes"
  pub function_reach :
      (r old : ℕ) → r < record_count file → eqb (function_at t file r).new_addr 0 ≡ false → old_address_at t file r ≡ Ok old →
      (machine_at t).reaches ((machine_at t).displacement old (function_at t file r).new_addr) ≡ true
  -- "The first pair of records whose edits touch a common byte refuses the payload": there is no such pair
  pub pairs : (i j : ℕ) → i < j → j < record_count file → touch (edit_for t file i) (edit_for t file j) ≡ false

-- ---- all of them

pub record Keeps (t : Setting) (file : List ℕ) : Type 0 where
  pub reading : KeepsReading (machine_at t) file
  -- "8,192 placed bytes"
  pub placed : placed_length file ≤ placed_max
  pub relocations : KeepsRelocations t file
  pub functions : KeepsFunctions t file
