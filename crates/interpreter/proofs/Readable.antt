-- What is known of a line that was read as a command: it is not too long, and its fields were checked.
use Rattle.std.proofs.Common.{◌≡◌, ℕ, ◌≤◌, Bool, true, false, cond, leb, List, length, sym, refl, ◌∙◌, subst, leb-true, Some, None, Option}
use Rattle.script.specs.Command.{command_of}
use Rattle.script.specs.declared.command.Command.{Command}
use Rattle.script.specs.declared.command.Command.TheVariants.{
  Start,
  Upload,
  Get,
  List as Listing,
  Act,
  Report,
  Tick,
  Work,
}
use Rattle.script.proofs.Commands.{Checked, command-checked}
use Rattle.interpreter.specs.Lines.{line_max, command_in}

abbrev pub Readable : List ℕ → Option Command → Type 0
Readable line (Some (Start h)) = (length line ≤ line_max) × Checked line (Some (Start h))
Readable line (Some Upload) = (length line ≤ line_max) × Checked line (Some Upload)
Readable line (Some Get) = length line ≤ line_max
Readable line (Some Listing) = length line ≤ line_max
Readable line (Some (Act q)) = length line ≤ line_max
Readable line (Some (Report cpu)) = length line ≤ line_max
Readable line (Some Tick) = length line ≤ line_max
Readable line (Some Work) = length line ≤ line_max
Readable line None = Unit

short : (line : List ℕ) (c : Option Command) → length line ≤ line_max → Checked line c → Readable line c
short line (Some (Start h)) s checked = (s, checked)
short line (Some Upload) s checked = (s, checked)
short line (Some Get) s checked = s
short line (Some Listing) s checked = s
short line (Some (Act q)) s checked = s
short line (Some (Report cpu)) s checked = s
short line (Some Tick) s checked = s
short line (Some Work) s checked = s
short line None s checked = tt

either : (line : List ℕ) (t : Bool) → (t ≡ true → length line ≤ line_max) → Readable line (cond t (command_of line) None)
either line true s = short line (command_of line) (s refl) (command-checked line)
either line false s = tt

pub readable : (line : List ℕ) → Readable line (command_in line)
unfolding command_in
readable line = either line (leb (length line) line_max) (leb-true (length line) line_max)

-- as which command it was read
pub read_as : (line : List ℕ) {c c' : Option Command} → c ≡ command_in line → c ≡ c' → Readable line c'
read_as line e told = subst (Readable line) (sym e ∙ told) (readable line)
