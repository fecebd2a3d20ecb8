-- What the tests of a function record say.
use Prim.Native.Nat.{ℕ, ◌+◌, ◌-◌, ◌≤◌}
use mathlib.Core.Path.{◌≡◌}
use mathlib.Core.Bool.{true, ◌&&◌}
use borrow.Author.Tests.{leb-true}
use lib.Dec.{leb}
use Rattle.words.proofs.Tests.{both}
use Rattle.machine.specs.Machine.{edit_max}
use Rattle.machine.proofs.Laws.{lawful}
use Rattle.functions.specs.Edits.{lies_in, fill_ok, jump_ok}
use Rattle.functions.specs.Patching.{Patching, machine_for}
use Rattle.functions.specs.declared.function.FunctionRecord.{FunctionRecord}

-- bytes that lie among others begin after their beginning and end before their end
pub lies : (start count address size : ℕ) → lies_in start count address size ≡ true → (start ≤ address) × (address - start + size ≤ count)
lies start count address size h =
    let t = both (leb start address) (leb (address - start + size) count) h in
    (leb-true _ _ t.0, leb-true _ _ t.1)

module _ (p : Patching) (f : FunctionRecord) where
  -- a fill has at least one byte, no more than the longest edit, and no more than the old code
  pub fill_holds : fill_ok p f ≡ true → (1 ≤ f.new_size) × (f.new_size ≤ edit_max) × (f.new_size ≤ f.old_size)
  unfolding fill_ok
  fill_holds h =
      let t = both ((machine_for p).fill_size f.new_size) (leb f.new_size f.old_size) h in
      let laws = lawful p.host.processor in
      (laws.fill_some _ t.0, laws.fill_max _ t.0, leb-true _ _ t.1)

  -- the old code has room for a jump
  pub jump-holds : jump_ok p f ≡ true → (machine_for p).jump_length ≤ f.old_size
  unfolding jump_ok
  jump-holds h =
      let some = leb 1 f.new_size in
      let room = leb (machine_for p).jump_length f.old_size in
      leb-true _ _ (both some room (both (some && room) _ h).0).1
