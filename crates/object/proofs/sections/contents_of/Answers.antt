-- `sections::contents_of` meets its contract: nothing where the contents start past the end, what there is where they end past it,
-- and else all of them.
use Prim.Native.Nat.{◌-◌}
use mathlib.Core.Path.{sym, ◌∙◌}
use native.Mathlib.Nat.{add-sub_cancel_left}
use native.Mathlib.Omega.{arith}
use lib.ListN.{length, drop, length-drop, drop_of_length-le}
use lib.Seq.{take_all, take-nil}
use Rattle.words.specs.Splice.{part}
use Rattle.object.specs.Sections.{contents_of}
use Rattle.object.proofs.sections.contents_of.Goals as goal

pub returns-then-file-offset : goal.returns-then-file-offset
unfolding contents_of part
returns-then-file-offset c = let a = c.args in
    rw (drop_of_length-le a.file.now {i = a.h.sh_offset} (omega arith), take-nil a.h.sh_size)

pub returns-then-file-offset-2 : goal.returns-then-file-offset-2
unfolding contents_of part
returns-then-file-offset-2 c = let a = c.args in
    let rest = drop a.h.sh_offset a.file.now in
    take_all (length a.file.now - a.h.sh_offset) rest (rw length-drop (omega arith))
    ∙ sym (take_all a.h.sh_size rest (rw length-drop (omega arith)))

pub returns : goal.returns
unfolding contents_of part
returns c = simp add-sub_cancel_left
