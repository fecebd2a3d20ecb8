-- Document 01: "Relocations are taken by section index, then entry"; each in the order type, field, symbol, range.
use Rattle.records.specs.declared.refusal.Reason.{Reason}
use Rattle.std.specs.Prelude.{ℕ, zero, suc, ◌+◌, ◌*◌, ◌≤◌, ◌<◌, Bool, true, cond, not, ◌&&◌, ◌≡◌, List, leb, length, Option, Some, None, Result, Ok, Err}
use Rattle.words.specs.Address.{wrapping_sum}
use Rattle.records.specs.Limits.{file_max, placed_max, sections_max}
use Rattle.records.specs.Refusal.{reason_for, Verdict}
use Rattle.records.specs.Verdict.{refusal}
use Rattle.records.specs.declared.refusal.Place.TheVariants.{Entry}
use Rattle.elf.specs.Layout.{relocation_size, relocation_of}
use Rattle.elf.specs.declared.Relocation as elf
use Rattle.machine.specs.Host.{rule_of, with_field}
use Rattle.machine.specs.Machine.{Machine}
use Rattle.machine.specs.declared.fields.FieldType.{FieldType}
use Rattle.machine.specs.declared.host.Host.{Host}
use Rattle.machine.specs.declared.processor.RelocationType.{RelocationType}
use Rattle.machine.specs.declared.processor.RelocationType.TheVariants.{Nothing, Stores, Unknown}
use Rattle.kinds.specs.Kinds.{is_kind}
use Rattle.kinds.specs.declared.Kind.TheVariants.{Relocations, Ignored}
use Rattle.object.specs.Sections.{section_in, contents_of}
use Rattle.object.specs.declared.sections.SectionEntry.{SectionEntry}
use Rattle.payload.specs.declared.read.Reading.{Reading}
use Rattle.placement.specs.Placement.{offset_of}
use Rattle.linking.specs.Kept.{Sought}
use Rattle.linking.specs.Linking.{Linking}
use Rattle.linking.specs.declared.kept.Cell.{Cell}
use Rattle.linking.specs.Symbols.{symbol_value}
use Rattle.reader.specs.Entries.{relocation_count}
use Rattle.relocation.specs.declared.fields.Area.{Area}
use Rattle.relocation.specs.declared.fields.Store.{Store}

-- ---- one relocation: r, in the area of the slot that its section's target takes

-- P, the field's address
abbrev pub field_address : Linking → Area → elf.Relocation → ℕ
field_address l area r = wrapping_sum (wrapping_sum l.slot area.start) r.r_offset

-- what is stored, and where in the slot; that nothing is; or why it is refused
abbrev pub Field : Type 0
Field = Result (Option Store) Reason

-- a value that the field can take, or what is wrong with it
abbrev pub checked_field : FieldType → ℕ → ℕ → Result (Unit {0}) Reason → Field
checked_field f at value (Ok _) = Ok (Some (record { at = at; field = f; value = value }))
checked_field f at value (Err reason) = Err reason

abbrev pub stored_field : FieldType → ℕ → ℕ → Field
stored_field f at value = checked_field f at value ((rule_of f).fault value)

abbrev pub with_symbol : Linking → Area → elf.Relocation → FieldType → Result ℕ Reason → Field
with_symbol l area r f (Ok s) =
    stored_field f (area.start + r.r_offset) ((rule_of f).value s r.r_addend (field_address l area r))
with_symbol l area r f (Err reason) = Err reason

-- "The stored field lies inside its section.": and stands where the machine lets it
unfoldable pub field_ok : Linking → Area → elf.Relocation → FieldType → Bool
field_ok l area r f = leb (r.r_offset + (rule_of f).width) area.size && (rule_of f).aligned (field_address l area r)

abbrev pub in_field : Linking → Area → elf.Relocation → FieldType → Field
in_field l area r f =
    cond (field_ok l area r f)
    (with_symbol l area r f (symbol_value l r.r_symbol))
    (Err (reason_for 22))

-- "0 does nothing and consults neither symbol nor field"; "Others: 95"
abbrev pub by_type : Linking → Area → elf.Relocation → RelocationType → Field
by_type l area r Nothing = Ok None
by_type l area r (Stores f) = in_field l area r f
by_type l area r Unknown = Err (reason_for 95)

unfoldable pub field_of : Machine → Linking → Area → elf.Relocation → Field
field_of m l area r = by_type l area r (m.relocation r.r_type)

-- ---- over the slot's bytes

pub record Relocated : Type 0 where
  pub verdict : Verdict
  pub image : List ℕ

abbrev pub relocated : Verdict → List ℕ → Relocated
relocated v image = record { verdict = v; image = image }

abbrev pub store_in : List ℕ → Field → List ℕ
store_in image (Ok (Some s)) = with_field s.field image s.at s.value
store_in image (Ok None) = image
store_in image (Err reason) = image

-- the field lies in this many bytes
abbrev pub FieldFits : Field → ℕ → Type 0
FieldFits (Ok (Some s)) size = s.at + (rule_of s.field).width ≤ size
FieldFits (Ok None) size = 0 ≤ size
FieldFits (Err reason) size = 0 ≤ size

-- the verdict on entry e of relocation section i
abbrev pub field_verdict : Field → ℕ → ℕ → Verdict
field_verdict (Ok stored) i e = Ok tt
field_verdict (Err reason) i e = Err (refusal reason (Entry i e))

-- go on only where nothing was refused
abbrev pub go_on : Verdict → List ℕ → (List ℕ → Relocated) → Relocated
go_on (Ok _) image next = next image
go_on (Err r) image next = relocated (Err r) image

-- entry e over these bytes
abbrev pub relocate_entry : Machine → Linking → Area → List ℕ → ℕ → List ℕ → Relocated
relocate_entry m l area entries e image =
    let field = field_of m l area (relocation_of entries (relocation_size * e)) in
    relocated (field_verdict field area.section e) (store_in image field)

-- go on from what was left
abbrev pub continue : Relocated → (List ℕ → Relocated) → Relocated
continue r next = go_on r.verdict r.image next

-- k entries from entry e on
unfoldable pub relocate_entries : Machine → Linking → Area → List ℕ → ℕ → ℕ → List ℕ → Relocated
relocate_entries m l area entries e zero image = relocated (Ok tt) image
relocate_entries m l area entries e (suc k) image =
    continue (relocate_entry m l area entries e image) (relocate_entries m l area entries (suc e) k)

-- "in the second case the type 4 contents are ignored too"
abbrev pub is_made_in : SectionEntry → SectionEntry → Bool
is_made_in s target = is_kind s.kind Relocations && not (is_kind target.kind Ignored)

unfoldable pub is_relocating : List SectionEntry → SectionEntry → Bool
is_relocating ss s = is_made_in s (section_in ss s.header.sh_info)

-- where the code looks for the target: at section 0, where a section has none
abbrev pub target_of : SectionEntry → ℕ
target_of s = cond (is_kind s.kind Relocations) s.header.sh_info 0

-- "The target (sh_info)" of relocation section i: where it stands in the slot, and its size
abbrev pub area_of : List SectionEntry → ℕ → Area
area_of ss i =
    let target = (section_in ss i).header.sh_info in
    record { section = i; start = offset_of ss target; size = (section_in ss target).header.sh_size }

-- the entries of section i, where it is a relocation section that is not ignored
unfoldable pub relocate_section : Machine → Linking → List ℕ → ℕ → List ℕ → Relocated
relocate_section m l file i image =
    let s = section_in l.sections i in
    cond (is_relocating l.sections s)
    (relocate_entries m l (area_of l.sections i) (contents_of file s.header) 0 (relocation_count (contents_of file s.header)) image)
    (relocated (Ok tt) image)

-- k sections from section i on
unfoldable pub relocate_from : Machine → Linking → List ℕ → ℕ → ℕ → List ℕ → Relocated
relocate_from m l file i zero image = relocated (Ok tt) image
relocate_from m l file i (suc k) image = continue (relocate_section m l file i image) (relocate_from m l file (suc i) k)

-- all relocations of a payload
unfoldable pub relocate_all : Machine → Linking → List ℕ → List ℕ → Relocated
relocate_all m l file image = relocate_from m l file 0 l.count image

-- what a payload that is read is linked against: its symbol table, the section that this links to, and the symbol list
abbrev pub linking_of : Host → List ℕ → Reading → List ℕ → Linking
linking_of host file g list =
    let table = (section_in g.sections g.symbols).header in
    record {
      slot = host.slot;
      sections = g.sections;
      count = g.count;
      symbols = contents_of file table;
      strings = contents_of file (section_in g.sections table.sh_link).header;
      list = list;
    }

-- ---- what the checks before relocation leave

-- each table in its place, and every target inside the slot
pub record Linkable (size : ℕ) (file : List ℕ) (g : Reading) : Type 0 where
  pub whole : size ≡ placed_max
  pub short : length file ≤ file_max
  pub few : g.count ≤ sections_max
  pub table : g.symbols < sections_max
  pub strings : (section_in g.sections g.symbols).header.sh_link < sections_max
  pub targets :
      (i : ℕ) → i < g.count → is_kind (section_in g.sections i).kind Relocations ≡ true →
      (section_in g.sections i).header.sh_info < g.count
  pub inside :
      (i : ℕ) → i < g.count → is_relocating g.sections (section_in g.sections i) ≡ true →
      (area_of g.sections i).start + (area_of g.sections i).size ≤ placed_max

-- all that a relocation is given of l: the slot's address, the symbols, and where their names are looked up
pub record Given (l : Linking) (host : Host) (cells : List Cell) (strings list : List ℕ) : Type 0 where
  pub address : l.slot ≡ host.slot
  pub sought : Sought l cells strings list

-- the area lies in the slot
abbrev pub AreaFits : Area → Type 0
AreaFits area = area.start + area.size ≤ placed_max
