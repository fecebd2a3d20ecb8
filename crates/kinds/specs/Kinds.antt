-- Document 01, "Reading a payload": what a section is, by its type, its flag 0x2 and its name.
use Rattle.std.specs.Prelude.{ℕ, ◌+◌, Bool, cond, ◌&&◌, ◌||◌, List, leb, eqb, length, get_or, take}
use Rattle.std.specs.Int.Bits.{bit_and}
use Rattle.words.specs.Order.{equal}
use Rattle.words.specs.Text.{ascii}
use Rattle.elf.specs.Name.{Name, named, unnamed}
use Rattle.elf.specs.declared.SectionHeader.{SectionHeader}
use Rattle.kinds.specs.declared.Kind.{Kind}
use Rattle.kinds.specs.declared.Kind.TheVariants.{
  Null,
  Unnamed,
  Placed,
  Records,
  Depends,
  BuildId,
  Symbols,
  Strings,
  Relocations,
  Ignored,
  Unknown,
}

-- flag 0x2
abbrev pub is_allocated : SectionHeader → Bool
is_allocated h = eqb (bit_and h.sh_flags 2) 2

abbrev pub has_type : ℕ → SectionHeader → Bool
has_type t h = eqb h.sh_type t

-- "beginning .."
unfoldable pub starts_with : List ℕ → List ℕ → Bool
starts_with front name = equal (take (length front) name) front

-- "alone or followed by a dot and more"
unfoldable pub in_family : List ℕ → List ℕ → Bool
in_family front name =
    starts_with front name
    && (eqb (length name) (length front) || (leb (length front + 2) (length name) && eqb (get_or name (length front) 0) 46))

-- "a name .text, .rodata, .data or .bss, alone or followed by a dot and more"
unfoldable pub is_placed_name : List ℕ → Bool
is_placed_name name =
    in_family (ascii ".text") name
    || in_family (ascii ".rodata") name
    || in_family (ascii ".data") name
    || in_family (ascii ".bss") name

-- ".comment, .note.GNU-stack or names beginning .debug_"
unfoldable pub is_ignored_name : List ℕ → Bool
is_ignored_name name =
    equal name (ascii ".comment") || equal name (ascii ".note.GNU-stack") || starts_with (ascii ".debug_") name

-- "those two notes, also without flag 0x2", "(type 1 or 7)"
abbrev pub note_kind : SectionHeader → Kind → Kind
note_kind h kind = cond (has_type 1 h || has_type 7 h) kind Unknown

-- "Placed: flag 0x2 with type 1, 7 or 8, and a name ..": any name but those of the records and the two notes
abbrev pub allocated_kind : SectionHeader → List ℕ → Kind
allocated_kind h name = cond ((has_type 1 h || has_type 7 h || has_type 8 h) && is_placed_name name) Placed Unknown

-- "types 2, 3, 4 without it"; "Ignored: without 0x2, type 1, .."
abbrev pub plain_kind : SectionHeader → List ℕ → Kind
plain_kind h name =
    cond (has_type 2 h) Symbols
    (cond (has_type 3 h) Strings
    (cond (has_type 4 h) Relocations
    (cond (has_type 1 h && is_ignored_name name) Ignored
    Unknown)))

-- "Anything else is refused with 95": its kind is Unknown
unfoldable pub kind_named : SectionHeader → List ℕ → Kind
kind_named h name =
    cond (equal name (ascii ".livepatch.funcs")) (cond (is_allocated h && has_type 1 h) Records Unknown)
    (cond (equal name (ascii ".livepatch.depends")) (note_kind h Depends)
    (cond (equal name (ascii ".note.gnu.build-id")) (note_kind h BuildId)
    (cond (is_allocated h) (allocated_kind h name)
    (plain_kind h name))))

-- the kind of a section of any type but 0
abbrev pub kind_of : SectionHeader → Name → Kind
kind_of h (named name) = kind_named h name
kind_of h unnamed = Unnamed

-- a number for each kind, by which kinds are compared
abbrev pub kind_code : Kind → ℕ
kind_code Null = 0
kind_code Unnamed = 1
kind_code Placed = 2
kind_code Records = 3
kind_code Depends = 4
kind_code BuildId = 5
kind_code Symbols = 6
kind_code Strings = 7
kind_code Relocations = 8
kind_code Ignored = 9
kind_code Unknown = 10

abbrev pub is_kind : Kind → Kind → Bool
is_kind a b = eqb (kind_code a) (kind_code b)

-- "Each of the two note sections"
abbrev pub is_note_kind : Kind → Bool
is_note_kind kind = is_kind kind Depends || is_kind kind BuildId
