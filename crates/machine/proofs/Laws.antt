-- What holds on every processor: the other crates cite these laws, and no processor's own numbers.
use Prim.Native.Nat.{ℕ, ◌≤◌, ◌<◌, ◌^◌}
use mathlib.Core.Path.{◌≡◌}
use mathlib.Core.Bool.{true}
use mathlib.Core.List.{List}
use native.Mathlib.Omega.{arith}
use borrow.Author.Tests.{leb-true}
use lib.Dec.{leb}
use lib.ListN.{length, length-replicate}
use Rattle.words.proofs.Addresses.{difference_below}
use Rattle.words.proofs.Number.{length-le_bytes}
use Rattle.words.proofs.Tests.{both}
use Rattle.records.specs.declared.payload.Edit.{Edit}
use Rattle.records.specs.declared.payload.EditKind.TheVariants.{Jump, Fill}
use Rattle.machine.specs.Host.{machine_of, rule_of}
use Rattle.machine.specs.Machine.{Machine, edit_bytes, edit_max}
use Rattle.machine.specs.X86.{displacement_of, is_fill_size, x86_64}
use Rattle.machine.specs.declared.fields.FieldType.{FieldType}
use Rattle.machine.specs.declared.fields.FieldType.TheVariants.{Absolute, Relative}
use Rattle.machine.specs.declared.processor.Processor.{Processor}
use Rattle.machine.specs.declared.processor.Processor.TheVariants.{X86_64}

-- ---- fields

-- a field has 1 to 8 bytes
pub field-narrow : (f : FieldType) → (1 ≤ (rule_of f).width) × ((rule_of f).width ≤ 8)
field-narrow Absolute = omega arith
field-narrow Relative = omega arith

-- a field's new bytes are as many as its old ones
pub length-field :
    (f : FieldType) (old : List ℕ) (v : ℕ) → length old ≡ (rule_of f).width → length ((rule_of f).bytes old v) ≡ (rule_of f).width
length-field Absolute old v h = length-le_bytes 8 v
length-field Relative old v h = length-le_bytes 4 v

-- ---- the jump and the fill

-- their bytes are as many as is said, at least one and no more than the longest edit has; a displacement is a 64-bit number
pub record Lawful (m : Machine) : Type 0 where
  pub jump_length : (d : ℕ) → length (m.jump_bytes d) ≡ m.jump_length
  pub jump_some : 1 ≤ m.jump_length
  pub jump_max : m.jump_length ≤ edit_max
  pub fill_length : (n : ℕ) → length (m.fill_bytes n) ≡ n
  pub fill_some : (n : ℕ) → m.fill_size n ≡ true → 1 ≤ n
  pub fill_max : (n : ℕ) → m.fill_size n ≡ true → n ≤ edit_max
  pub displaced : (old new : ℕ) → m.displacement old new < 2 ^ 64

-- the sizes of a fill on x86-64
x86-fill : (n : ℕ) → is_fill_size n ≡ true → (1 ≤ n) × (n ≤ edit_max)
unfolding is_fill_size
x86-fill n h =
    let sizes = both (leb 1 n) (leb n edit_max) h in
    (leb-true 1 n sizes.0, leb-true n edit_max sizes.1)

x86-lawful : Lawful x86_64
unfolding displacement_of
x86-lawful = record {
  jump_length = λ d. rw (length-le_bytes 4 d);
  jump_some = omega arith;
  jump_max = omega arith;
  fill_length = λ n. length-replicate n 0x90;
  fill_some = λ n h. (x86-fill n h).0;
  fill_max = λ n h. (x86-fill n h).1;
  displaced = λ old new. difference_below _ _;
}

pub lawful : (p : Processor) → Lawful (machine_of p)
lawful X86_64 = x86-lawful

-- ---- an edit's bytes

-- a jump's are as many as every jump has, and a fill's as many as the edit says
pub length-edit :
    {m : Machine} → Lawful m → (e : Edit) → ((d : ℕ) → e.kind ≡ Jump d → length (edit_bytes m e) ≡ m.jump_length)
    × (e.kind ≡ Fill → length (edit_bytes m e) ≡ e.length)
unfolding edit_bytes
length-edit laws e = (λ d k. rw k (laws.jump_length d), λ k. rw k (laws.fill_length e.length))
