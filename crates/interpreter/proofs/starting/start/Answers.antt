-- `starting::start` meets its contract: refused, what stood stands; accepted, the unit is the new one.
use Rattle.std.proofs.Common.{◌≤◌, length, take, arith, length-take-le}
use Rattle.interpreter.specs.Lines.{line_max, id_in}
use Rattle.interpreter.proofs.Fresh.{set-up-with, stands-starts, begins-starts}
use Rattle.interpreter.proofs.starting.start.Goals as goal

pub returns-in-Err : goal.returns-in-Err
unfolding id_in
returns-in-Err c = let a = c.args in
    let x = set-up-with c.keep_hex-n.ensures.same c.set_up-called.ensures in
    stands-starts a.console a.state a.host _ a.memory.now c.set_up-called.result _ x c.requires.within.0 _ c.in-Err.is _ _ _
    c.verdict-written.ensures

-- the build-id of the line has room
pub begin-requires : goal.begin-requires
begin-requires c = let keep = c.keep_hex-n in
    let size = length-take-le keep.result keep.new.out keep.ensures.room in
    (c.requires.within.1, omega (arith, size, keep.ensures.room))

pub returns : goal.returns
unfolding id_in
returns c = let a = c.args in
    let keep = c.keep_hex-n in
    let size = length-take-le keep.result keep.new.out keep.ensures.room in
    let room : length (take keep.result keep.new.out) ≤ line_max = omega (arith, size, keep.ensures.room) in
    let x = set-up-with keep.ensures.same c.set_up-called.ensures in
    begins-starts a.console a.state a.host _ a.memory.now c.set_up-called.result _ x c.requires.within.1 c.begin.result _ _ _
    _ room c.begin.ensures.0 c.in_default.is keep.ensures.same c.begin.ensures.1 c.begin.ensures.2 _ _ c.verdict-written.ensures
