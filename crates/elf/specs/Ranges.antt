-- The ranges of the fields narrower than eight bytes.
use Rattle.std.specs.Prelude.{◌<◌, ◌^◌}
use Rattle.elf.specs.declared.FileHeader.{FileHeader}
use Rattle.elf.specs.declared.SectionHeader.{SectionHeader}
use Rattle.elf.specs.declared.Symbol.{Symbol}
use Rattle.elf.specs.declared.Relocation.{Relocation}
use Rattle.elf.specs.declared.Note.{Note}

pub record FileHeaderRanges (h : FileHeader) : Type 0 where
  pub magic : h.magic < 2 ^ 32
  pub ei_class : h.ei_class < 2 ^ 8
  pub ei_data : h.ei_data < 2 ^ 8
  pub ei_version : h.ei_version < 2 ^ 8
  pub e_type : h.e_type < 2 ^ 16
  pub e_machine : h.e_machine < 2 ^ 16
  pub e_version : h.e_version < 2 ^ 32
  pub e_shentsize : h.e_shentsize < 2 ^ 16
  pub e_shnum : h.e_shnum < 2 ^ 16
  pub e_shstrndx : h.e_shstrndx < 2 ^ 16

pub record SectionHeaderRanges (h : SectionHeader) : Type 0 where
  pub sh_name : h.sh_name < 2 ^ 32
  pub sh_type : h.sh_type < 2 ^ 32
  pub sh_link : h.sh_link < 2 ^ 32
  pub sh_info : h.sh_info < 2 ^ 32

pub record SymbolRanges (h : Symbol) : Type 0 where
  pub st_name : h.st_name < 2 ^ 32
  pub st_info : h.st_info < 2 ^ 8
  pub st_shndx : h.st_shndx < 2 ^ 16

pub record RelocationRanges (h : Relocation) : Type 0 where
  pub r_type : h.r_type < 2 ^ 32
  pub r_symbol : h.r_symbol < 2 ^ 32

pub record NoteRanges (h : Note) : Type 0 where
  pub n_namesz : h.n_namesz < 2 ^ 32
  pub n_descsz : h.n_descsz < 2 ^ 32
  pub n_type : h.n_type < 2 ^ 32
  pub name : h.name < 2 ^ 32
