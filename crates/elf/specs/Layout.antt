-- The ELF gABI's layouts, 64-bit and little-endian: what stands at which byte. Sums are ordinary, so no offset wraps.
use Rattle.std.specs.Prelude.{ℕ, ◌+◌, List}
use Rattle.words.specs.Number.{le_at}
use Rattle.elf.specs.declared.FileHeader.{FileHeader}
use Rattle.elf.specs.declared.SectionHeader.{SectionHeader}
use Rattle.elf.specs.declared.Symbol.{Symbol}
use Rattle.elf.specs.declared.Relocation.{Relocation}
use Rattle.elf.specs.declared.Note.{Note}

-- the sizes of Elf64_Ehdr, Elf64_Shdr, Elf64_Sym, Elf64_Rela, and of Elf64_Nhdr with 4 bytes of name
abbrev pub file_header_size : ℕ
file_header_size = 64

abbrev pub section_header_size : ℕ
section_header_size = 64

abbrev pub symbol_size : ℕ
symbol_size = 24

abbrev pub relocation_size : ℕ
relocation_size = 24

abbrev pub note_head_size : ℕ
note_head_size = 16

-- Elf64_Ehdr; EI_CLASS, EI_DATA and EI_VERSION are bytes 4 to 6 of e_ident
unfoldable pub file_header_of : List ℕ → FileHeader
file_header_of s =
    record {
      magic = le_at 4 s 0;
      ei_class = le_at 1 s 4;
      ei_data = le_at 1 s 5;
      ei_version = le_at 1 s 6;
      e_type = le_at 2 s 16;
      e_machine = le_at 2 s 18;
      e_version = le_at 4 s 20;
      e_shoff = le_at 8 s 40;
      e_shentsize = le_at 2 s 58;
      e_shnum = le_at 2 s 60;
      e_shstrndx = le_at 2 s 62;
    }

-- Elf64_Shdr
unfoldable pub section_header_of : List ℕ → ℕ → SectionHeader
section_header_of s at =
    record {
      sh_name = le_at 4 s at;
      sh_type = le_at 4 s (at + 4);
      sh_flags = le_at 8 s (at + 8);
      sh_offset = le_at 8 s (at + 24);
      sh_size = le_at 8 s (at + 32);
      sh_link = le_at 4 s (at + 40);
      sh_info = le_at 4 s (at + 44);
      sh_addralign = le_at 8 s (at + 48);
      sh_entsize = le_at 8 s (at + 56);
    }

-- Elf64_Sym
unfoldable pub symbol_of : List ℕ → ℕ → Symbol
symbol_of s at = record { st_name = le_at 4 s at; st_info = le_at 1 s (at + 4); st_shndx = le_at 2 s (at + 6); st_value = le_at 8 s (at + 8) }

-- Elf64_Rela: the low 4 bytes of r_info are the type, the high 4 the symbol
unfoldable pub relocation_of : List ℕ → ℕ → Relocation
relocation_of s at = record { r_offset = le_at 8 s at; r_type = le_at 4 s (at + 8); r_symbol = le_at 4 s (at + 12); r_addend = le_at 8 s (at + 16) }

-- Elf64_Nhdr, and the first 4 bytes of the name that follows it
unfoldable pub note_of : List ℕ → Note
note_of s = record { n_namesz = le_at 4 s 0; n_descsz = le_at 4 s 4; n_type = le_at 4 s 8; name = le_at 4 s 12 }
