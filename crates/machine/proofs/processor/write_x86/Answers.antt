-- `write_x86` meets its contract: the two writes of a jump are one write of its bytes.
use Prim.Native.Nat.{◌+◌, ◌≤◌}
use mathlib.Core.Path.{◌∙◌}
use native.Mathlib.Omega.{arith}
use lib.ListN.{length}
use Rattle.words.proofs.Splice.{splice-append}
use Rattle.machine.specs.Machine.{edit_bytes}
use Rattle.machine.specs.X86.{jump_length}
use Rattle.machine.specs.declared.processor.Processor.TheVariants.{X86_64}
use Rattle.machine.proofs.Laws.{lawful, length-edit}
use Rattle.machine.proofs.processor.write_x86.Goals as goal
use Rattle.machine.proofs.processor.write_x86.Goals.{In-Jump}

-- where the edit is a jump, the text has room for it
room :
    (c : goal.In-Jump) → let a = c.args in
    a.at + jump_length ≤ length a.text.now
room c = omega (arith, (length-edit (lawful X86_64) c.args.edit).0 _ c.in-Jump.is)

pub fill-requires : goal.fill-requires
fill-requires c = omega (arith, room (goal.at.fill-requires c).In-Jump)

pub write-requires : goal.write-requires
write-requires c = omega (arith, room (goal.at.write-requires c).In-Jump)

pub fill-requires-in-Fill : goal.fill-requires-in-Fill
fill-requires-in-Fill c = omega (arith, (length-edit (lawful X86_64) c.args.edit).1 c.in-Fill.is)

pub returns-in-Jump : goal.returns-in-Jump
unfolding edit_bytes
returns-in-Jump c = let a = c.args in
    rw c.in-Jump.is
    (c.write.ensures ∙ rw c.fill.ensures (splice-append a.text.now a.at _ (omega arith) _))

pub returns-in-Fill : goal.returns-in-Fill
unfolding edit_bytes
returns-in-Fill c = rw c.in-Fill.is c.fill-in-Fill.ensures
