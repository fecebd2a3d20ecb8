-- What was read says: a number is at most what was asked, a command's hex is hex, and a start-up's text is not too large.
use Rattle.std.proofs.Common.{Some, None, Option, ℕ}
use Prim.Native.Nat.{ℕ, ◌≤◌}
use mathlib.Core.Path.{◌≡◌, refl, ap}
use mathlib.Core.Bool.{Bool, true, false, cond, ◌&&◌}
use mathlib.Core.List.{List}
use native.Mathlib.Omega.{arith}
use borrow.Author.Tests.{leb-true}
use lib.Dec.{leb}
use Rattle.std.specs.Bool.{then_some}
use Rattle.words.specs.Find.{every}
use Rattle.words.specs.Text.{ascii}
use Rattle.words.proofs.Tests.{both, three}
use Rattle.script.specs.Command.{
  number_most,
  base_most,
  size_most,
  with_number,
  start_in,
  upload_in,
  get_in,
  act_in,
  report_in,
  command_of,
}
use Rattle.script.specs.Decimal.{is_digit, value, number_of}
use Rattle.script.specs.Fields.{field_of, is_plain, is_command}
use Rattle.script.specs.Hex.{is_hex}
use Rattle.script.specs.declared.command.Command.{Command}
use Rattle.script.specs.declared.command.Command.TheVariants.{
  Start,
  Upload,
  Get,
  List as Listing,
  Act,
  Report,
  Tick,
  Work,
}

-- how many numbers were read
abbrev reads : Option ℕ → ℕ
reads (Some n) = 1
reads None = 0

most-if : (most : ℕ) (t : Bool) (v n : ℕ) → (t ≡ true → v ≤ most) → cond t (Some v) None ≡ Some n → n ≤ most
most-if most true v n small h =
    let same : v ≡ n = cc in
    omega (arith, small refl)
most-if most false v n small h =
    let none : reads None ≡ reads (Some n) = ap reads h in
    absurd (omega arith)

-- it is at most what was asked
pub number-most : (most : ℕ) (s : List ℕ) (n : ℕ) → number_of most s ≡ Some n → n ≤ most
unfolding number_of
number-most most s n =
    most-if most (is_plain s && every is_digit s && leb (value s) most) (value s) n
    (λ t. leb-true (value s) most (three (is_plain s) (every is_digit s) (leb (value s) most) t).2)

-- ---- what was checked of a command

abbrev pub Checked : List ℕ → Option Command → Type 0
Checked line (Some (Start h)) = (is_hex (field_of line 5) ≡ true) × (h.size ≤ size_most)
Checked line (Some Upload) = is_hex (field_of line 2) ≡ true
Checked line (Some Get) = Unit
Checked line (Some Listing) = Unit
Checked line (Some (Act q)) = Unit
Checked line (Some (Report cpu)) = Unit
Checked line (Some Tick) = Unit
Checked line (Some Work) = Unit
Checked line None = Unit

module _ (line : List ℕ) where
  either : (t : Bool) (a b : Option Command) → Checked line a → Checked line b → Checked line (cond t a b)
  either true a b h g = h
  either false a b h g = g

  if-then_some : (t : Bool) (c : Command) → (t ≡ true → Checked line (Some c)) → Checked line (then_some t c)
  if-then_some true c h = h refl
  if-then_some false c h = tt

  start-checked : Checked line (start_in line)
  unfolding start_in
  start-checked =
      cases (number_of base_most (field_of line 1)) (number_of size_most (field_of line 2)) (number_of base_most (field_of line 3))
      (number_of number_most (field_of line 4)) (is_hex (field_of line 5)) (number-most size_most (field_of line 2)) (λ h. h)
    where
      cases :
          (n1 n2 n3 n4 : Option ℕ) (t : Bool) → ((size : ℕ) → n2 ≡ Some size → size ≤ size_most) → (t ≡ true → is_hex (field_of line 5) ≡ true) →
          Checked line
          (with_number n1 (λ base.
          with_number n2 (λ size.
          with_number n3 (λ arena.
          with_number n4 (λ cpus. then_some t (Start (record { base = base; size = size; arena = arena; cpus = cpus })))))))
      cases (Some base) (Some size) (Some arena) (Some cpus) true small h = (h refl, small size refl)
      cases (Some base) (Some size) (Some arena) (Some cpus) false small h = tt
      cases (Some base) (Some size) (Some arena) None t small h = tt
      cases (Some base) (Some size) None n4 t small h = tt
      cases (Some base) None n3 n4 t small h = tt
      cases None n2 n3 n4 t small h = tt

  upload-checked : Checked line (upload_in line)
  unfolding upload_in
  upload-checked = if-then_some (is_plain (field_of line 1) && is_hex (field_of line 2)) Upload λ h. (both (is_plain (field_of line 1)) (is_hex (field_of line 2)) h).1

  get-checked : Checked line (get_in line)
  unfolding get_in
  get-checked = if-then_some (is_plain (field_of line 1)) Get λ h. tt

  act-checked : Checked line (act_in line)
  unfolding act_in
  act-checked = cases (number_of number_most (field_of line 2)) (number_of number_most (field_of line 3)) (is_plain (field_of line 1))
    where
      cases :
          (n1 n2 : Option ℕ) (t : Bool) →
          Checked line (with_number n1 (λ action. with_number n2 (λ time. then_some t (Act (record { action = action; time = time })))))
      cases (Some action) (Some time) true = tt
      cases (Some action) (Some time) false = tt
      cases (Some action) None t = tt
      cases None n2 t = tt

  report-checked : Checked line (report_in line)
  unfolding report_in
  report-checked = cases (number_of number_most (field_of line 1))
    where
      cases : (n : Option ℕ) → Checked line (with_number n (λ cpu. Some (Report cpu)))
      cases (Some cpu) = tt
      cases None = tt

  -- of every command that was read
  pub command-checked : Checked line (command_of line)
  unfolding command_of
  command-checked =
      either (is_command line (ascii "start") 5) _ _ start-checked
      (either (is_command line (ascii "upload") 2) _ _ upload-checked
      (either (is_command line (ascii "get") 1) _ _ get-checked
      (either (is_command line (ascii "list") 0) (Some Listing) _ tt
      (either (is_command line (ascii "act") 3) _ _ act-checked
      (either (is_command line (ascii "report") 1) _ _ report-checked
      (either (is_command line (ascii "tick") 0) (Some Tick) _ tt
      (either (is_command line (ascii "work") 0) (Some Work) None tt tt)))))))
