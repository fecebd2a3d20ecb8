-- Document 01, "Numbers to hold against it": K1 to K9 in one table, over the definitions that the contracts cite. Each row speaks of any
-- relocation, note or record that is as the row says, through all that decides its answer.
use Rattle.records.specs.Refusal.{Verdict}
use Rattle.records.specs.declared.payload.Edit.{Edit}
use Rattle.records.specs.declared.refusal.Reason.{Reason}
use Rattle.std.specs.Prelude.{ℕ, ◌+◌, ◌-◌, ◌^◌, ◌≤◌, ◌≡◌, true, false, List, [], ◌∷◌, ◌++◌, ◌↔◌, eqb, ℤ, pos, neg_ℤ, length, replicate, ◌≤ℤ◌, Ok, Result}
use Rattle.words.specs.Address.{wrapping_sum, wrapping_difference, signed, stored, fits}
use Rattle.words.specs.Number.{le_bytes}
use Rattle.words.specs.Splice.{splice}
use Rattle.records.specs.Verdict.{must}
use Rattle.records.specs.declared.refusal.Place.TheVariants.{Section, Entry, Record}
use Rattle.elf.specs.declared.Relocation as elf
use Rattle.machine.specs.Machine.{edit_bytes}
use Rattle.machine.specs.X86.{x86_64}
use Rattle.machine.specs.declared.processor.Processor.TheVariants.{X86_64}
use Rattle.kinds.specs.Kinds.{is_note_kind}
use Rattle.kinds.specs.declared.Kind.TheVariants.{Placed}
use Rattle.object.specs.Sections.{section_in, contents_of}
use Rattle.object.specs.declared.sections.SectionEntry.{SectionEntry}
use Rattle.notes.specs.Notes.{id_length, padded, note_ok, one_note}
use Rattle.placement.specs.Placement.{end_before, offset_of}
use Rattle.linking.specs.Linking.{Linking}
use Rattle.linking.specs.Symbols.{symbol_value}
use Rattle.relocation.specs.Relocating.{field_address, field_of, field_verdict, store_in}
use Rattle.relocation.specs.declared.fields.Area.{Area}
use Rattle.functions.specs.Edits.{form_ok, in_text, jump_ok, edit_from}
use Rattle.functions.specs.Functions.{edit_verdict, made_of}
use Rattle.functions.specs.Patching.{Patching}
use Rattle.functions.specs.declared.function.FunctionRecord.{FunctionRecord}

-- ---- what the rows speak of

-- a relocation of type 2 whose field lies inside its section, and whose result S + A - P is v
pub record Relative (l : Linking) (area : Area) (r : elf.Relocation) (v : ℕ) : Type 0 where
  pub typed : r.r_type ≡ 2
  pub inside : r.r_offset + 4 ≤ area.size
  pub symbol : ℕ
  pub resolved : symbol_value l r.r_symbol ≡ Ok symbol
  pub result : wrapping_difference (wrapping_sum symbol r.r_addend) (field_address l area r) ≡ v

-- a record on x86-64 with nothing against it but what its kind of edit asks
pub record Plain (p : Patching) (at old : ℕ) (f : FunctionRecord) : Type 0 where
  pub machine : p.host.processor ≡ X86_64
  pub form : form_ok p.placed at f ≡ true
  pub text : in_text p old f ≡ true

-- a right record that asks for a jump from old to new
pub record Jumps (p : Patching) (at old new : ℕ) (f : FunctionRecord) : Type 0 where
  pub plain : Plain p at old f
  pub to : f.new_addr ≡ new
  pub right : jump_ok p f ≡ true

-- the bytes that a record's edit puts into the text
abbrev pub bytes_for : Result Edit Reason → List ℕ
bytes_for e = edit_bytes x86_64 (made_of e)

-- a placed section by its size and alignment
abbrev pub placed_section : ℕ → ℕ → SectionEntry
placed_section size align =
    record {
      header = record {
        sh_name = 0;
        sh_type = 1;
        sh_flags = 2;
        sh_offset = 0;
        sh_size = size;
        sh_link = 0;
        sh_info = 0;
        sh_addralign = align;
        sh_entsize = 0;
      };
      kind = Placed;
    }

-- a note with an id of d bytes ff
abbrev pub note_with : ℕ → List ℕ
note_with d =
    le_bytes 4 4 ++ le_bytes 4 d ++ le_bytes 4 3 ++ (0x47 ∷ 0x4e ∷ 0x55 ∷ 0x00 ∷ []) ++ replicate d 0xff ++ replicate (padded d - d) 0

-- ---- the rows

pub record KnownAnswers : Type 0 where
  -- "K1 old 0xffff82d08013963c, new 0xffff82d0801a0000: e9 bf 69 06 00"
  pub k1 :
      (p : Patching) (at : ℕ) (f : FunctionRecord) → Jumps p at 0xffff82d08013963c 0xffff82d0801a0000 f →
      bytes_for (edit_from p at 0xffff82d08013963c f) ≡ 0xe9 ∷ 0xbf ∷ 0x69 ∷ 0x06 ∷ 0x00 ∷ []
  -- "K2 swapped: e9 37 96 f9 ff"
  pub k2 :
      (p : Patching) (at : ℕ) (f : FunctionRecord) → Jumps p at 0xffff82d0801a0000 0xffff82d08013963c f →
      bytes_for (edit_from p at 0xffff82d0801a0000 f) ≡ 0xe9 ∷ 0x37 ∷ 0x96 ∷ 0xf9 ∷ 0xff ∷ []
  -- "K3 type 2, S 0xffff82d08015fbb9, A -4, P 0xffff82d080104a6a: 4b b1 05 00"
  pub k3 :
      (l : Linking) (area : Area) (r : elf.Relocation) (image : List ℕ) →
      r.r_type ≡ 2 → r.r_offset + 4 ≤ area.size →
      symbol_value l r.r_symbol ≡ Ok 0xffff82d08015fbb9 → r.r_addend ≡ 2 ^ 64 - 4 →
      field_address l area r ≡ 0xffff82d080104a6a →
      store_in image (field_of x86_64 l area r) ≡ splice image (area.start + r.r_offset) (0x4b ∷ 0xb1 ∷ 0x05 ∷ 0x00 ∷ [])
  -- "K4 2^31 - 1 stands, 2^31 gives 34."
  pub k4_stands :
      (l : Linking) (area : Area) (r : elf.Relocation) (image : List ℕ) → Relative l area r (2 ^ 31 - 1) →
      store_in image (field_of x86_64 l area r) ≡ splice image (area.start + r.r_offset) (0xff ∷ 0xff ∷ 0xff ∷ 0x7f ∷ [])
  pub k4_refused :
      (l : Linking) (area : Area) (r : elf.Relocation) (i e : ℕ) → Relative l area r (2 ^ 31) →
      field_verdict (field_of x86_64 l area r) i e ≡ must false 34 (Entry i e)
  -- "K5 -2^31 stands, one less gives 34."
  pub k5_stands :
      (l : Linking) (area : Area) (r : elf.Relocation) (image : List ℕ) → Relative l area r (2 ^ 64 - 2 ^ 31) →
      store_in image (field_of x86_64 l area r) ≡ splice image (area.start + r.r_offset) (0x00 ∷ 0x00 ∷ 0x00 ∷ 0x80 ∷ [])
  pub k5_refused :
      (l : Linking) (area : Area) (r : elf.Relocation) (i e : ℕ) → Relative l area r (2 ^ 64 - 2 ^ 31 - 1) →
      field_verdict (field_of x86_64 l area r) i e ≡ must false 34 (Entry i e)
  -- "K4 and K5's width fact is general": at every width w a value fits exactly where it lies in the range, and where its w stored bits read back as it
  pub k4_k5_range : (w : ℕ) (v : ℤ) → (fits w v ≡ true) ↔ (neg_ℤ (pos (2 ^ (w - 1))) ≤ℤ v) × (v ≤ℤ pos (2 ^ (w - 1) - 1))
  pub k4_k5_stored : (w : ℕ) (v : ℤ) → 1 ≤ w → (fits w v ≡ true) ↔ (signed w (stored w v) ≡ v)
  -- "K6 sizes 13 align 16 then 5 align 8: offsets 0 and 16, 21 placed"
  pub k6 :
      let two = placed_section 13 16 ∷ placed_section 5 8 ∷ [] in
      (offset_of two 0 ≡ 0) × (offset_of two 1 ≡ 16) × (end_before two 2 ≡ 21)
  -- "K7 a 20-byte id: 36-byte note section; 1 byte: 20; 65: refused" (W1)
  pub k7_20 : (note_ok (note_with 20) ≡ true) × (length (note_with 20) ≡ 36)
  pub k7_1 : (note_ok (note_with 1) ≡ true) × (length (note_with 1) ≡ 20)
  -- the length for every id, and so at most 80 bytes
  pub k7_length : (note : List ℕ) → note_ok note ≡ true → length note ≡ 16 + padded (id_length note)
  pub k7_most : (note : List ℕ) → note_ok note ≡ true → length note ≤ 80
  -- the refused one
  pub k7_65 :
      (file : List ℕ) (ss : List SectionEntry) (i : ℕ) (rest : Verdict) → is_note_kind (section_in ss i).kind ≡ true →
      id_length (contents_of file (section_in ss i).header) ≡ 65 → one_note file ss i rest ≡ must false 22 (Section i)
  -- "K8 NOP 31 stands, 32 refused"
  pub k8_stands :
      (p : Patching) (at old : ℕ) (f : FunctionRecord) → Plain p at old f → f.new_addr ≡ 0 → f.new_size ≡ 31 → 31 ≤ f.old_size →
      bytes_for (edit_from p at old f) ≡ replicate 31 0x90
  pub k8_refused :
      (p : Patching) (at old r : ℕ) (f : FunctionRecord) → p.host.processor ≡ X86_64 → f.new_addr ≡ 0 → f.new_size ≡ 32 →
      edit_verdict (edit_from p at old f) r ≡ must false 22 (Record r)
  -- "K9 old_size 4 refused for a jump": whatever else the record says
  pub k9 :
      (p : Patching) (at old r : ℕ) (f : FunctionRecord) → p.host.processor ≡ X86_64 → eqb f.new_addr 0 ≡ false → f.old_size ≡ 4 →
      edit_verdict (edit_from p at old f) r ≡ must false 22 (Record r)
