-- Document 01's rules of a payload by itself, in their order, and what the stages after the reading work on.
use Rattle.records.specs.Refusal.{Verdict}
use Rattle.std.specs.Prelude.{ℕ, ◌/◌, List, take}
use Rattle.records.specs.Limits.{record_size}
use Rattle.records.specs.Verdict.{◌then◌}
use Rattle.machine.specs.Host.{host_machine}
use Rattle.machine.specs.Machine.{Machine}
use Rattle.machine.specs.declared.host.Host.{Host}
use Rattle.kinds.specs.declared.Kind.{Kind}
use Rattle.kinds.specs.declared.Kind.TheVariants.{Records}
use Rattle.object.specs.Sections.{section_count, sections, section_in}
use Rattle.payload.specs.Counts.{count_of, index_of}
use Rattle.payload.specs.Reading.{read_rules, accepted_reading}
use Rattle.payload.specs.declared.read.Reading.{Reading}
use Rattle.placement.specs.Placement.{end_before, offset_of, image_before, placement_rules}
use Rattle.linking.specs.Linking.{Linking}
use Rattle.relocation.specs.Relocating.{Relocated, linking_of, relocate_all}
use Rattle.functions.specs.Functions.{function_rules}
use Rattle.functions.specs.Patching.{Patching, patching}

-- what a payload is prepared for: the host and the symbol list
pub record Setting : Type 0 where
  pub host : Host
  pub list : List ℕ

abbrev pub setting : Host → List ℕ → Setting
setting host list = record { host = host; list = list }

abbrev pub machine_at : Setting → Machine
machine_at t = host_machine t.host

-- ---- what the file's sections give

-- how many sections are of a kind, and the first of them
abbrev pub kind_count : List ℕ → Kind → ℕ
kind_count file kind = count_of (sections file) (section_count file) kind

abbrev pub kind_index : List ℕ → Kind → ℕ
kind_index file kind = index_of (sections file) (section_count file) kind

-- what is read of a file that passes
abbrev pub reading_for : List ℕ → Reading
reading_for file = accepted_reading file (sections file) (section_count file)

-- what the relocations are resolved against
abbrev pub linking_for : Setting → List ℕ → Linking
linking_for t file = linking_of t.host file (reading_for file) t.list

-- the slot's bytes after all relocations
unfoldable pub relocated_of : Setting → List ℕ → Relocated
relocated_of t file = relocate_all (machine_at t) (linking_for t file) file (image_before file (sections file) (section_count file))

-- "The placed bytes run to the last one's end."
abbrev pub placed_length : List ℕ → ℕ
placed_length file = end_before (sections file) (section_count file)

abbrev pub records_index : List ℕ → ℕ
records_index file = kind_index file Records

-- how many function records there are
abbrev pub record_count : List ℕ → ℕ
record_count file = (section_in (sections file) (records_index file)).header.sh_size / record_size

-- the placed bytes after relocation
abbrev pub placed_bytes : Setting → List ℕ → List ℕ
placed_bytes t file = take (placed_length file) (relocated_of t file).image

-- where the function records begin in them
abbrev pub records_start : List ℕ → ℕ
records_start file = offset_of (sections file) (records_index file)

-- the function records: "Read after relocation."
abbrev pub patching_of : Setting → List ℕ → Patching
patching_of t file = patching t.host (placed_bytes t file) t.list

-- ---- the rules in their order

-- "placement .., relocations .., records .., pairs": what slot, text and symbol list decide of a file that is read
unfoldable pub build_rules : Setting → List ℕ → Verdict
build_rules t file =
    placement_rules (sections file) (section_count file)
    then (relocated_of t file).verdict
    then function_rules (patching_of t file) (records_start file) (record_count file)

-- "8, e_shstrndx .. notes by index", then the rest
abbrev pub payload_rules : Setting → List ℕ → Verdict
payload_rules t file = read_rules (machine_at t) file then build_rules t file
