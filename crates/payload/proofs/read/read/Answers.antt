-- `read::read` meets its contract: the first stage that refuses is the answer, and what was read else.
use Rattle.std.proofs.Common.{◌≡◌, ◌≤◌, sym, ◌∙◌, arith}
use Rattle.records.specs.Limits.{sections_max}
use Rattle.machine.specs.Host.{machine_of}
use Rattle.header.specs.Header.{Headed}
use Rattle.header.proofs.HeaderLaws.{headed}
use Rattle.object.specs.Sections.{section_count}
use Rattle.object.proofs.SectionLaws.{count-read}
use Rattle.payload.proofs.read.read.Goals as goal
use Rattle.payload.proofs.read.read.Goals.{In_ok-check_header, After-read_sections-table}

-- ---- the header

has-header : (c : goal.In_ok-check_header) → Headed c.args.file.now
has-header c = headed (machine_of c.args.processor) c.args.file.now (sym c.check_header.ensures ∙ c.in_ok-check_header.was)

pub check_name_table-requires : goal.check_name_table-requires
check_name_table-requires c = has-header c

pub read_file_header-h-requires : goal.read_file_header-h-requires
read_file_header-h-requires c = (has-header (goal.at.read_file_header-h-requires c).In_ok-check_header).whole

pub read_sections-table-requires : goal.read_sections-table-requires
read_sections-table-requires c = (
  has-header (goal.at.read_sections-table-requires c).In_ok-check_header,
  sym c.check_name_table.ensures ∙ c.in_ok-check_name_table.was,
)

-- ---- the table that was read

right-count : (c : goal.After-read_sections-table) → c.read_file_header-h.result.e_shnum ≡ section_count c.args.file.now
right-count c = count-read c.args.file.now c.read_file_header-h.ensures.value

few : (c : goal.After-read_sections-table) → c.read_file_header-h.result.e_shnum ≤ sections_max
few c = omega (arith, right-count c, (has-header (goal.at.After-read_sections-table c).In_ok-check_header).few)

pub check_table-requires : goal.check_table-requires
check_table-requires c = few c

pub accept-requires : goal.accept-requires
accept-requires c = (
  few (goal.at.accept-requires c).After-read_sections-table,
  sym c.check_table.ensures ∙ c.in_ok-check_table.was,
)
