-- `unload::without` meets its contract: the payloads behind place `i` move up by one, and the last record becomes the empty one.
use Rattle.std.proofs.Common.{◌≡◌, suc, ◌-◌, length, drop, refl, ◌∙◌, add-one, arith, length-drop, take_all}
use Rattle.std.proofs.lemmas.Slice.{put_mid-paste}
use Rattle.actions.specs.Actions.{removed_at}
use Rattle.actions.proofs.UnloadLaws.{moved_all}
use Rattle.actions.proofs.unload.without.Goals as goal

pub returns : goal.returns
unfolding removed_at
returns c = let l = c.args.payloads in
    let i = c.args.i in
    let behind = drop (suc i) l in
    let many : 7 - i ≡ length behind = rw length-drop (omega arith) in
    let moved = rw add-one at c.copy_from_slice.ensures.after ∙ take_all _ behind (omega arith) in
    rw (put_mid-paste i (7 - i) l _ behind (7 - i) moved refl many, c.empty.ensures) (moved_all l i 7 _ (omega arith) (omega arith))
