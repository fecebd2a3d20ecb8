-- Document 01: "Placement: in index order, each at the next multiple of its alignment (0 counts as 1) from the slot's start.
-- Type 8 and gaps are zero. The placed bytes run to the last one's end."
use Rattle.std.specs.Prelude.{ℕ, zero, suc, ◌+◌, ◌-◌, ◌%◌, Bool, cond, not, ◌&&◌, ◌||◌, List, leb, eqb, replicate, Option, Some, None, Result, Ok, Err}
use Rattle.words.specs.Scan.{scan, filled}
use Rattle.words.specs.Splice.{splice}
use Rattle.records.specs.Limits.{sections_max, placed_max}
use Rattle.records.specs.Verdict.{refusal, must, ◌then◌, decide}
use Rattle.records.specs.Refusal.{reason_for, Verdict}
use Rattle.records.specs.declared.refusal.Place.TheVariants.{Section}
use Rattle.records.specs.declared.refusal.Refusal.{Refusal}
use Rattle.kinds.specs.Kinds.{is_allocated, has_type, is_kind, is_note_kind}
use Rattle.kinds.specs.declared.Kind.TheVariants.{Placed, Records}
use Rattle.object.specs.Sections.{section_in, contents_of}
use Rattle.object.specs.declared.sections.SectionEntry.{SectionEntry}
use Rattle.placement.specs.declared.Layout.{Layout}
use Rattle.placement.specs.declared.Placement.{Placement}

-- "Placed: flag 0x2 with ..": every section of the kinds Placed and Records, and a note that has the flag
unfoldable pub is_placed : SectionEntry → Bool
is_placed s = is_kind s.kind Placed || is_kind s.kind Records || (is_note_kind s.kind && is_allocated s.header)

-- "the next multiple of its alignment (0 counts as 1)": at itself, where it is one
unfoldable pub next_multiple : ℕ → ℕ → ℕ
next_multiple at align = cond (eqb align 0) at (cond (eqb (at % align) 0) at (at + (align - at % align)))

-- where a section starts, and where what is placed ends after it, if end bytes were placed before
abbrev pub section_start : ℕ → SectionEntry → ℕ
section_start end s = cond (is_placed s) (next_multiple end s.header.sh_addralign) 0

abbrev pub section_end : ℕ → SectionEntry → ℕ
section_end end s = cond (is_placed s) (next_multiple end s.header.sh_addralign + s.header.sh_size) end

-- how many bytes the sections before section i take: in index order, from the slot's start
unfoldable pub end_before : List SectionEntry → ℕ → ℕ
end_before ss zero = 0
end_before ss (suc i) = section_end (end_before ss i) (section_in ss i)

-- the offset of section i in the slot
unfoldable pub offset_of : List SectionEntry → ℕ → ℕ
offset_of ss i = section_start (end_before ss i) (section_in ss i)

-- "placed bytes over 8,192": "the section that passes 8,192"
abbrev pub one_placed : List SectionEntry → ℕ → Verdict → Verdict
one_placed ss i rest = must (leb (end_before ss (suc i)) placed_max) 12 (Section i) then rest

unfoldable pub placement_rules : List SectionEntry → ℕ → Verdict
placement_rules ss n = scan (one_placed ss) (Ok tt) 0 n

-- one step of it, as the code takes it
unfoldable pub step_of : ℕ → SectionEntry → Option (ℕ × ℕ)
step_of end s = cond (leb (section_end end s) placed_max) (Some (section_start end s, section_end end s)) None

-- "Type 8 and gaps are zero": contents come from the file for the other types
unfoldable pub has_contents : SectionEntry → Bool
has_contents s = is_placed s && not (has_type 8 s.header)

-- the slot's bytes with no section in it
unfoldable pub no_bytes : List ℕ
no_bytes = replicate placed_max 0

-- the slot's bytes with the sections before section i in it
unfoldable pub image_before : List ℕ → List SectionEntry → ℕ → List ℕ
image_before file ss zero = no_bytes
image_before file ss (suc i) =
    cond (has_contents (section_in ss i))
    (splice (image_before file ss i) (offset_of ss i) (contents_of file (section_in ss i).header))
    (image_before file ss i)

-- ---- what is kept of it for the symbols

-- what the value of a symbol in this section must lie below: at most its size in a placed one, and nothing in another
abbrev pub bound_for : SectionEntry → ℕ
bound_for s = cond (is_placed s) (s.header.sh_size + 1) 0

unfoldable pub layout_of : List SectionEntry → ℕ → Layout
layout_of ss n = record {
  offsets = filled (offset_of ss) 0 sections_max n;
  bounds = filled (λ i. bound_for (section_in ss i)) 0 sections_max n;
}

-- ---- the answer, and the slot's bytes after it

pub record PlacedSlot : Type 0 where
  pub answer : Result Placement Refusal
  pub image : List ℕ

abbrev pub placed_slot : Result Placement Refusal → List ℕ → PlacedSlot
placed_slot answer image = record { answer = answer; image = image }

abbrev pub refused_placement : Refusal → PlacedSlot
refused_placement r = placed_slot (Err r) no_bytes

unfoldable pub refused_at : ℕ → PlacedSlot
refused_at i = refused_placement (refusal (reason_for 12) (Section i))

abbrev pub accepted_placement : List ℕ → List SectionEntry → ℕ → PlacedSlot
accepted_placement file ss n =
    placed_slot (Ok (record { layout = layout_of ss n; placed = end_before ss n })) (image_before file ss n)

unfoldable pub placement_of : List ℕ → List SectionEntry → ℕ → PlacedSlot
placement_of file ss n = decide refused_placement (accepted_placement file ss n) (placement_rules ss n)
