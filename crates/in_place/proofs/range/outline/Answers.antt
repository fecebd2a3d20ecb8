-- `range::outline` meets its contract: the first `i` payloads are in both arrays.
use Prim.Native.Nat.{◌<◌}
use mathlib.Core.Path.{◌≡◌, ap}
use native.Mathlib.Omega.{arith}
use Rattle.words.proofs.Scan.{fill-begin, fill-turn, get_or-filled}
use Rattle.memory.specs.Memory.{slot_count}
use Rattle.state.specs.declared.state.Job.{Job}
use Rattle.state_bytes.specs.Stored.{state_in}
use Rattle.state_bytes.proofs.Laws.{whole_in}
use Rattle.in_place.proofs.range.outline.Invariants.{slot-at, edits-at}
use Rattle.in_place.proofs.range.outline.Goals as goal
use Rattle.in_place.proofs.range.outline.Goals.{In-loop-i}

pub loop-i-init : goal.loop-i-init
loop-i-init c = (fill-begin _ _ slot_count, fill-begin _ _ slot_count)

-- a payload of the list is one of those that there is room for
below : (c : goal.In-loop-i) → c.loop-i.i < slot_count
below c = omega (arith, c.loop-i-test.true, c.count-count.ensures, c.requires.1)

pub loop-i-preserved : goal.loop-i-preserved
loop-i-preserved c = let b = c.args.b.now in
    let l = c.loop-i in
    let h = below (goal.at.loop-i-preserved c).In-loop-i in (
      rw (l.invariant.0, c.slot.ensures) (fill-turn (slot-at b) 0 slot_count l.i h),
      rw (l.invariant.1, c.edit_count.ensures) (fill-turn (edits-at b) 0 slot_count l.i h),
    )

pub returns : goal.returns
returns c = let b = c.args.b.now in
    let l = c.loop-i in
    let whole = whole_in b c.requires.0 in
    let all : l.i ≡ (state_in b).count = omega (arith, c.loop-i-test.false, c.count-count.ensures) in
    record {
      listed = whole.payloads;
      stacked = whole.stack;
      count = c.count-count.ensures;
      slots = λ i h. rw (l.invariant.0, all) (get_or-filled (slot-at b) 0 slot_count (state_in b).count i 0 h);
      edits = λ i h. rw (l.invariant.1, all) (get_or-filled (edits-at b) 0 slot_count (state_in b).count i 0 h);
      depth = c.depth-depth.ensures;
      stack = c.stack-stack.ensures;
      action = ap (λ (j : Job). j.action) c.job-job.ensures;
      slot = ap (λ (j : Job). j.slot) c.job-job.ensures;
      time = ap (λ (j : Job). j.time) c.job-job.ensures;
      steps = ap (λ (j : Job). j.steps) c.job-job.ensures;
    }
