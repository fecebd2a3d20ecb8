-- `outline::outline_of` meets its contract: the first `i` payloads are in both arrays.
use Prim.Native.Nat.{◌<◌}
use mathlib.Core.Path.{◌≡◌, refl, ◌∙◌}
use native.Mathlib.Omega.{arith}
use lib.Seq.{length-take-le}
use Rattle.std.proofs.lemmas.List.{get_or-take}
use Rattle.words.proofs.Scan.{fill-begin, fill-turn, get_or-filled}
use Rattle.memory.specs.Memory.{slot_count}
use Rattle.records.specs.declared.payload.Payload.{Payload}
use Rattle.state.proofs.Whole.{Whole, whole, no_copy, copied-payload}
use Rattle.outlines.proofs.outline.outline_of.Invariants.{slot-at, edits-at}
use Rattle.outlines.proofs.outline.outline_of.Goals as goal
use Rattle.outlines.proofs.outline.outline_of.Goals.{Start}

all_whole : (c : goal.Start) → Whole c.args.state
all_whole c = whole c.args.state _ c.well_formed.0

pub loop-i-init : goal.loop-i-init
loop-i-init c = (fill-begin _ _ slot_count, fill-begin _ _ slot_count)

pub loop-i-preserved : goal.loop-i-preserved
loop-i-preserved c = let s = c.args.state in
    let l = c.loop-i in
    let w = all_whole (goal.at.loop-i-preserved c).Start in
    let here : l.i < s.count = omega (arith, length-take-le {A = Payload}) in
    let below : l.i < slot_count = omega arith in
    let copied = get_or-take s.count s.payloads l.i no_copy here ∙ copied-payload w l.i below in (
      rw (l.invariant.0, copied) (fill-turn (slot-at s) 0 slot_count l.i below),
      rw (l.invariant.1, copied) (fill-turn (edits-at s) 0 slot_count l.i below),
    )

pub returns : goal.returns
returns c = let s = c.args.state in
    let l = c.loop-i in
    let w = all_whole (goal.at.returns c).Start in
    let all : l.i ≡ s.count = omega (arith, w.payloads, length-take-le {A = Payload}) in
    record {
      listed = w.payloads;
      stacked = w.stack;
      count = refl;
      slots = λ i h. rw (l.invariant.0, all) (get_or-filled (slot-at s) 0 slot_count s.count i 0 h);
      edits = λ i h. rw (l.invariant.1, all) (get_or-filled (edits-at s) 0 slot_count s.count i 0 h);
      depth = refl;
      stack = refl;
      action = refl;
      slot = refl;
      time = refl;
      steps = refl;
    }
