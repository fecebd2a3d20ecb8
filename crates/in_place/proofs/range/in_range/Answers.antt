-- `range::in_range` meets its contract: the first test that fails decides.
use Prim.Native.Nat.{◌≤◌, ◌<◌}
use mathlib.Core.Path.{◌≡◌, sym, ap, ◌∙◌}
use mathlib.Core.Bool.{true, false, not, ◌&&◌, ◌||◌}
use native.Mathlib.Omega.{arith}
use borrow.Author.Tests.{le-leb, lt-leb}
use lib.Dec.{leb}
use lib.ListN.{length, get_or}
use Rattle.words.specs.Find.{every}
use Rattle.words.proofs.Find.{every-turn, every-end}
use Rattle.words.proofs.Tests.{held, refuted}
use Rattle.records.specs.Payload.{empty}
use Rattle.memory.specs.Config.{config_ok}
use Rattle.memory.specs.Memory.{slot_count}
use Rattle.state.specs.Find.{is_taken}
use Rattle.state.specs.State.{is_standing, loaded, stack_of}
use Rattle.ranges.specs.Ranges.{payload_in_range, job_in_range, in_range}
use Rattle.state_bytes.specs.Stored.{state_in}
use Rattle.state_bytes.proofs.Laws.{whole_in}
use Rattle.in_place.proofs.range.in_range.Goals as goal
use Rattle.in_place.proofs.range.in_range.Goals.{Else-not-is_valid, Else-count-gt-SLOTS, In-loop-i, After-payload_in_range, After-loop-i, Else-count-depth}

pub returns-then-not-is_valid : goal.returns-then-not-is_valid
unfolding in_range
returns-then-not-is_valid c = simp (ap config_ok (sym c.config-config.ensures) ∙ refuted c.is_valid.ensures c.if-not-is_valid.true)

-- start-up's numbers are valid
valid : (c : goal.Else-not-is_valid) → config_ok (state_in c.args.b.now).config ≡ true
valid c = ap config_ok (sym c.config-config.ensures) ∙ held c.is_valid.ensures c.if-not-is_valid.false

pub returns-then-count-gt-SLOTS : goal.returns-then-count-gt-SLOTS
unfolding in_range
returns-then-count-gt-SLOTS c = let count = (state_in c.args.b.now).count in
    simp (
      valid (goal.at.returns-then-count-gt-SLOTS c).Else-not-is_valid,
      lt-leb count slot_count (omega (arith, c.count-count.ensures, c.if-count-gt-SLOTS.true)),
    )

-- and there are no more payloads than slots
few : (c : goal.Else-count-gt-SLOTS) → (state_in c.args.b.now).count ≤ slot_count
few c = omega (arith, c.count-count.ensures, c.if-count-gt-SLOTS.false)

many : (c : goal.Else-count-gt-SLOTS) → let s = state_in c.args.b.now in s.count ≤ length s.payloads
many c = omega (arith, few c, (whole_in c.args.b.now c.requires).payloads)

-- payload `i` is loaded
inside : (c : goal.In-loop-i) → c.loop-i.i < (state_in c.args.b.now).count
inside c = omega (arith, c.loop-i-test.true, c.count-count.ensures)

-- the test of it
tested :
    (c : goal.After-payload_in_range) → let s = state_in c.args.b.now in
    c.payload_in_range.result ≡ payload_in_range s.config (get_or s.payloads c.loop-i.i empty)
tested c = c.payload_in_range.ensures ∙ rw (c.payload.ensures, c.config-config.ensures)

pub returns-then-not-payload_in_range : goal.returns-then-not-payload_in_range
unfolding in_range
returns-then-not-payload_in_range c = let s = state_in c.args.b.now in
    let p = goal.at.returns-then-not-payload_in_range c in
    let fails : every (payload_in_range s.config) (loaded s) ≡ false =
    c.loop-i.invariant
    ∙ every-turn _ _ _ _ (many p.Else-count-gt-SLOTS) empty (inside p.In-loop-i)
    ∙ rw (refuted (tested p.After-payload_in_range) c.if-not-payload_in_range.true) in
    simp (valid p.Else-not-is_valid, le-leb _ _ (few p.Else-count-gt-SLOTS), fails)

pub loop-i-preserved : goal.loop-i-preserved
loop-i-preserved c = let p = goal.at.loop-i-preserved c in
    c.loop-i.invariant
    ∙ every-turn _ _ _ _ (many p.Else-count-gt-SLOTS) empty (inside p.In-loop-i)
    ∙ rw (held (tested p.After-payload_in_range) c.if-not-payload_in_range.false)

-- after the payloads: what is left to test
rest :
    (c : goal.After-loop-i) → let s = state_in c.args.b.now in
    in_range s ≡ (leb s.depth s.count && every (is_taken s) (stack_of s) && (not (is_standing s.job) || job_in_range s))
unfolding in_range
rest c =
    let s = state_in c.args.b.now in
    let p = goal.at.After-loop-i c in
    let all : s.count ≤ c.loop-i.i = omega (arith, c.loop-i-test.false, c.count-count.ensures) in
    simp (
      valid p.Else-not-is_valid,
      le-leb _ _ (few p.Else-count-gt-SLOTS),
      c.loop-i.invariant ∙ every-end _ _ _ _ (many p.Else-count-gt-SLOTS) all,
    )

pub returns-then-count-depth : goal.returns-then-count-depth
returns-then-count-depth c = let s = state_in c.args.b.now in
    rw (
      rest (goal.at.returns-then-count-depth c).After-loop-i,
      lt-leb s.depth s.count (omega (arith, c.if-count-depth.true, c.depth.ensures, c.count-count.ensures)),
    )

-- the stack is no deeper than the list is long
shallow : (c : goal.Else-count-depth) → let s = state_in c.args.b.now in s.depth ≤ s.count
shallow c = omega (arith, c.if-count-depth.false, c.depth.ensures, c.count-count.ensures)

pub returns : goal.returns
returns c = let p = goal.at.returns c in
    rw (rest p.After-loop-i, le-leb _ _ (shallow p.Else-count-depth)) (c.outline_in_range.ensures _ c.outline.ensures)
